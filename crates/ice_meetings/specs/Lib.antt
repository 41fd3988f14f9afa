-- What the contracts of the meetings cite.
pub mod Meets
