-- What the contracts of the grid cite.
pub mod Marks
