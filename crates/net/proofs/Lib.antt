pub mod Verdicts
pub mod Steps
mod Drawings
