-- What the contracts of frames as records cite.
pub mod Aired
