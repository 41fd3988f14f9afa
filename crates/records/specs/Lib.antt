-- The bytes of records, and what stands first in some bytes.
pub mod Numbers
pub mod Kinds
pub mod Faults
pub mod Channels
pub mod Messages
pub mod Hearing
