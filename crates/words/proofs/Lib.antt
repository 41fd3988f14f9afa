-- Lemmas of the bytes of a word on the air, and of what counts.
mod Items
mod Said
mod Taken
pub mod Tested
