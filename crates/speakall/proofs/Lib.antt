-- Lemmas and proofs of the statements.
pub mod Truth
pub mod Members
pub mod Modulo
pub mod Polynomial
pub mod Inverses
pub mod Meet
pub mod Pigeonhole
pub mod Limit
pub mod Reached
pub mod Words
pub mod Heard
pub mod Alone
pub mod Whole
pub mod Example
