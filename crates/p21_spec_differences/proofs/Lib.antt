pub mod Decided
pub mod Headers
pub mod Values
pub mod Files
pub mod NearValues
pub mod LeftOutExamples
