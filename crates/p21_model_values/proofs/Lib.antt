pub mod Scanning
pub mod FirstBytes
pub mod Handing
pub mod TypedValues
pub mod Shortening
pub mod LedCharacters
pub mod NumberTexts
pub mod NamedTexts
