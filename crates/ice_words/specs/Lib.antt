-- What the contracts of the program's words cite.
pub mod Words
