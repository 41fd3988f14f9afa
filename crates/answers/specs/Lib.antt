-- The bytes of what a listener makes of a frame, and what stands first in some bytes.
pub mod Readings
pub mod Telling
