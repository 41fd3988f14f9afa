-- Lemmas of the search for a channel, side by side and digit by digit.
pub mod Sides
pub mod Order
pub mod Search
