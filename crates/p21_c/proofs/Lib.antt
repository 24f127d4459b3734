pub mod Owning
pub mod Answering
pub mod Numbering
pub mod Lending
pub mod Telling
pub mod Filling
pub mod Modelled
