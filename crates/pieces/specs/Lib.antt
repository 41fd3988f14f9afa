-- What a reader that is fed in pieces will still give.
pub mod Waiting
pub mod Coming
pub mod Readers
pub mod Together
