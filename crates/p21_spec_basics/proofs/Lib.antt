pub mod Comparing
pub mod HexDigits
pub mod LastDigit
pub mod Members
pub mod RisingLists
pub mod Shuffles
pub mod PlainDigits
