pub mod UseOrder
pub mod Grouped
pub mod Named
