pub mod Bounds
pub mod Least
pub mod Nth
