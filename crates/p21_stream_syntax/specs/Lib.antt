pub mod Prefix
pub mod Shape
pub mod Sections
pub mod Waiting
pub mod Given
pub mod Walk
pub mod Reading
