pub mod Joined
pub mod Pairing
pub mod Laws
