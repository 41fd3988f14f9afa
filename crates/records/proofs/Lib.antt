-- Lemmas on records: what stands first in some bytes, by cases, and arrays taken apart.
pub mod Items
pub mod Firsts
pub mod Fours
pub mod Back
