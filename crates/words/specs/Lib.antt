-- Words on the air: their bytes, and which of those heard count.
pub mod Bytes
pub mod Counting
