pub mod Digits
pub mod Limits
pub mod History
