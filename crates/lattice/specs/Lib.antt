pub mod Coord
pub mod Screws
pub mod Semidirect
pub mod Triples
pub mod Translations
pub mod Texts
