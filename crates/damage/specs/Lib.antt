-- What the code of damaged reading promises, over the statements.
pub mod Made
pub mod Seeking
