-- What the readers of whole inputs give.
pub mod Firsts
pub mod Inputs
