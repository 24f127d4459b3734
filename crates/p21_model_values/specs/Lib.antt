pub mod Written
pub mod Ends
pub mod Spelled
pub mod Named
