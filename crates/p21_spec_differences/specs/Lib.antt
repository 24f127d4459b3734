pub mod Difference
pub mod HeaderNames
pub mod Near
pub mod LeftOut
pub mod Laws
