-- Lemmas on the words of polynomials, on sound words and on the polynomial through words.
pub mod Backward
pub mod Horner
pub mod Table
pub mod Sound
pub mod Points
