pub mod Runs
pub mod Decided
pub mod Ends
pub mod Members
pub mod Tellings
pub mod Turns
