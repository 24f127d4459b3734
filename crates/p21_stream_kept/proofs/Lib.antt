mod Prefixes
mod Lengths
pub mod Stepping
pub mod SectionNames
pub mod Instances
pub mod ByMembership
pub mod Ended
mod Serving
pub mod Unserved
pub mod Finding
pub mod Following
pub mod Dropping
pub mod EarlierLemmas
pub mod Zipping
