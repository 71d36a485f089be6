pub mod Reading
mod Sayings
