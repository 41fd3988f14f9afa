-- Lemmas of the signs of the grid.
pub mod Signs
