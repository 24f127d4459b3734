pub mod SpelledScalars
pub mod WrittenParams
pub mod Views
pub mod Rising
pub mod Elements
pub mod Spelled
