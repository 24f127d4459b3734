pub mod BitsLemmas
mod DigitLemmas
pub mod Readings
pub mod SignificantDigits
pub mod Significands
pub mod StoredDecimals
pub mod StoredWholes
pub mod Added
pub mod ByteStorageLemmas
pub mod Continuing
