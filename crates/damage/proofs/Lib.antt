-- Lemmas on the search for a message.
pub mod Trying
pub mod Answering
