-- What the contracts of channels, plans and faults cite.
pub mod Rows
pub mod Valid
pub mod Settings
pub mod Plans
pub mod Faults
