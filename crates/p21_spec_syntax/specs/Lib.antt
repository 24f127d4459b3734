pub mod FileWithin
pub mod WellFormedFile
pub mod Laws
