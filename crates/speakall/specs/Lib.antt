-- The statements of Speakall: read these files alone to know what is promised.
pub mod Plan
pub mod Frame
pub mod Promise
pub mod Code
pub mod Example
