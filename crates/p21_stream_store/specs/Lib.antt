-- What is stored of the instances that were taken.
pub mod Texts
pub mod Blocks
pub mod StoredTexts
pub mod StoredInstance
pub mod NamedLines
pub mod Lines
pub mod Pages
pub mod Tables
pub mod Runs
pub mod Positions
pub mod Noted
pub mod NamedMemberships
pub mod Seen
pub mod SetOrder
pub mod Numbering
pub mod EntitySets
pub mod Memberships
