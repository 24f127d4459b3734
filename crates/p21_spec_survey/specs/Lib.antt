pub mod Landmark
pub mod Resuming
pub mod Rules
pub mod Survey
pub mod Laws
pub mod Whole
