-- Lemmas of the reading of the program's words.
pub mod Meant
pub mod Reading
