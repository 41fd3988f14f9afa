-- What the contracts of planning cite.
pub mod Wishes
