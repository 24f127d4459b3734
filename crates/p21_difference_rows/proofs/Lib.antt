pub mod Chains
pub mod Adding
pub mod Along
pub mod Knowing
pub mod Ignoring
pub mod Beside
pub mod Walk
pub mod Listing
mod PairRows
