-- Lemmas on reading words of which some may be wrong.
pub mod Prime
pub mod First
pub mod Answers
pub mod Blocks
pub mod Chosen
pub mod System
pub mod Split
