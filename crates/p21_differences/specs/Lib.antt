pub mod Lines
pub mod OtherValues
pub mod Changes
pub mod About
pub mod Laws
