-- Lemmas on what is read of words.
pub mod Listening
