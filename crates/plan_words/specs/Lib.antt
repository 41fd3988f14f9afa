-- What the contracts of the program's words and lines cite.
pub mod Words
pub mod Lines
