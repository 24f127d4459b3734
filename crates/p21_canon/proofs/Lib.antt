mod Listed
mod Written
mod Closure
mod StatementTexts
mod Places
mod Records
mod FoundRows
pub mod Statements
pub mod Shapes
pub mod SameRows
pub mod Pairing
