-- What is to be made of the words heard of one sender.
pub mod Reads
pub mod Damage
pub mod Blocks
