-- Lemmas of the lines.
pub mod Spaced
