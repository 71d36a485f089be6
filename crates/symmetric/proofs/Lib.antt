pub mod Occurrences
pub mod Laws
pub mod Packed
pub mod Compared
pub mod Written
