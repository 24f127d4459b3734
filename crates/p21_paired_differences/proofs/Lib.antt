pub mod KeptLines
mod RenamedLines
pub mod Pairs
pub mod ReadFiles
