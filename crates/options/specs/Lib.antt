-- What the contracts of options cite.
pub mod Options
