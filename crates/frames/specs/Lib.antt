-- What the contracts of frames cite.
pub mod Slots
pub mod Speakers
pub mod Heard
