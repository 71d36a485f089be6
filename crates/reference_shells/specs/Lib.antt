pub mod BreadthFirst
pub mod BreadthFirstLaws
pub mod Sequence
pub mod Square
pub mod Diamond
pub mod FourfoldScrew
pub mod Closed
pub mod ReferenceLaws
