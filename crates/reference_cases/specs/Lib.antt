pub mod Involution
pub mod ReferenceLaws
