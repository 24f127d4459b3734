pub mod Row
pub mod View
pub mod TypedView
pub mod SplitTexts
pub mod KnownTypes
pub mod Spelled
