-- SHA-256 as FIPS 180-4 has it.
pub mod Constants
pub mod Functions
pub mod Padding
pub mod Hash
pub mod Known
pub mod Message
