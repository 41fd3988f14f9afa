-- Proofs of the rows that are more than a computation.
pub mod Readings
pub mod Planning
