pub mod RefusedNames
pub mod Sifted
pub mod SieveTaking
pub mod RefusedAlone
pub mod UnservedListing
pub mod SieveEnding
