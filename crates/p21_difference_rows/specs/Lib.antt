pub mod Asked
pub mod RealNames
pub mod Fronts
pub mod Listed
pub mod Steps
pub mod Pairs
