-- Lemmas of texts that are cut.
pub mod Cutting
