pub mod Step
pub mod Reading
pub mod Meaning
pub mod Run
pub mod SameToken
