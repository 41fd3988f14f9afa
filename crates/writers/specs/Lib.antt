-- What the writers write.
pub mod Written
pub mod Order
