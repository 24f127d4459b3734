pub mod Within
pub mod Places
pub mod Sums
pub mod Near
pub mod Spelled
pub mod Numbers
pub mod NearValues
