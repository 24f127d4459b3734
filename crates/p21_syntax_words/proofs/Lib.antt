mod Putting
pub mod Counting
