pub mod View
pub mod Fault
