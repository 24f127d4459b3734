-- What the calls of C answer, and what their handles hold and own.
pub mod Answers
pub mod Contents
pub mod Filled
pub mod Models
pub mod Numbered
pub mod Owned
pub mod Places
pub mod Reports
pub mod Spans
pub mod Types
pub mod Values
