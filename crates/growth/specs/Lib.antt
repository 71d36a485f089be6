pub mod Entry
pub mod SightOrder
pub mod Noted
pub mod Surveyed
