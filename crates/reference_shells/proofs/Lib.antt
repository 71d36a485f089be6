pub mod Seen
pub mod Beyond
pub mod Search
pub mod Computed
