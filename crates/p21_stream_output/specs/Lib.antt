-- The canonical file as it is put together, as it is written, and beside a text.
pub mod Compared
pub mod Output
pub mod Stored
pub mod NamedSections
pub mod Filing
pub mod Writing
pub mod Spelled
pub mod Ending
pub mod Reading
