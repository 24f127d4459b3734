pub mod Rows
pub mod Left
pub mod Line
pub mod Found
pub mod Told
pub mod Kept
pub mod EntitiesLeft
pub mod Uses
