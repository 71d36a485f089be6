pub mod Stage
pub mod After
pub mod Run
pub mod Owned
pub mod Findings
pub mod Model
pub mod Played
