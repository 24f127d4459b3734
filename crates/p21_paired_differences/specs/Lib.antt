pub mod ByPairs
pub mod Shown
