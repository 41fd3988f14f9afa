-- What the contracts of what the programs can share cite.
pub mod Numbers
pub mod Wrong
pub mod Lines
pub mod Each
