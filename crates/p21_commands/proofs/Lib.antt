pub mod Failing
pub mod Reporting
mod TransferLemmas
pub mod Comparing
pub mod Counting
pub mod Differing
pub mod Numbering
pub mod Pairing
pub mod Leaving
pub mod FileFailing
pub mod Showing
pub mod Writing
pub mod Surveys
pub mod SurveysAlone
pub mod TellingLemmas
pub mod Checking
pub mod Syntaxes
mod OwnWords
mod SchemaTexts
