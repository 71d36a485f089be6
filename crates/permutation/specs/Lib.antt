pub mod Permutations
pub mod Standing
pub mod Texts
