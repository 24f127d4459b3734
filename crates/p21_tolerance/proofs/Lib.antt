pub mod DigitsLeft
pub mod SumsLeft
pub mod Scaled
pub mod Spellings
pub mod SameNumbers
pub mod NearLists
