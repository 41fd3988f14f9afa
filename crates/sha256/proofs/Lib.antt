-- Lemmas of the steps of SHA-256 and of its padding.
mod Steps
mod Zones
mod Nine
