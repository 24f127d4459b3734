mod Signposts
mod Readings
mod Alike
mod Kept
pub mod WholeFronts
pub mod TakingRight
