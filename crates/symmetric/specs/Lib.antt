pub mod Images
pub mod Packing
pub mod FromLeft
pub mod Written
