-- What the code of polynomials promises, over the statements.
pub mod Heard
