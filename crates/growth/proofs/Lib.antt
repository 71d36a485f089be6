pub mod Parts
pub mod Notes
pub mod Questions
pub mod Growths
pub mod Totals
