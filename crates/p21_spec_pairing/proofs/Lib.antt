pub mod Parity
pub mod Together
pub mod Partners
pub mod Turned
pub mod Alone
