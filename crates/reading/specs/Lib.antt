-- Records one after the other.
pub mod Reading
pub mod Formats
