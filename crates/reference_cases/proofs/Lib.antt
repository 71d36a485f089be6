pub mod Refusals
pub mod Computed
