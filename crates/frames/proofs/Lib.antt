-- Lemmas of frames.
pub mod Places
pub mod There
pub mod Hearing
pub mod Own
pub mod Faults
pub mod Delivery
