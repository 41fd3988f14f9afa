-- Lemmas of channels and plans, for the contracts here and for the crates above.
pub mod Listed
pub mod Facts
pub mod Entries
pub mod Digits
pub mod Meeting
