pub mod UseRows
pub mod Tables
