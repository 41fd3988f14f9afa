-- What the contracts of a sender's word cite.
pub mod Pieces
pub mod Spoken
