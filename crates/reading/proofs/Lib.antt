-- What follows of the definition of reading.
pub mod Steps
pub mod Cuts
pub mod HeardLaws
pub mod MessageLaws
pub mod Loops
pub mod ChannelLaws
pub mod Bytes
