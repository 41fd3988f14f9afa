-- Lemmas of lists that are made of others, item by item.
pub mod Grown
