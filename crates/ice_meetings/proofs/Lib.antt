-- Lemmas of the meetings.
pub mod Counting
pub mod Pairs
