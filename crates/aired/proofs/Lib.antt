-- Lemmas of frames as records.
pub mod Recording
pub mod Taking
pub mod Keeping
pub mod Ordered
pub mod Returning
