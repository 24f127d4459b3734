mod Prefixes
mod Lengths
mod Known
pub mod SectionNames
pub mod Pieces
pub mod Adding
pub mod Names
pub mod Taking
pub mod RefusedAlone
pub mod Walking
pub mod Feeding
