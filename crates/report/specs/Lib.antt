pub mod Lines
pub mod Hex
pub mod Shown
pub mod Texts
