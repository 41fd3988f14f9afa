-- What the contracts of the channel and the speakers that the words give cite.
pub mod Wide
pub mod Speakers
pub mod Hearing
