mod Examples
mod FullStatements
pub mod NoFiles
pub mod IllFormed
pub mod Meaningful
