-- Lemmas of options.
pub mod Sorting
