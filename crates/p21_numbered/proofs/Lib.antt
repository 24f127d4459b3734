pub mod NumberedFile
pub mod Numbering
