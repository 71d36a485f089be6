pub mod Orders
pub mod Counting
mod Fold
mod Rounds
