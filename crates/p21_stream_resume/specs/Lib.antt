pub mod Step
pub mod Reading
pub mod Shape
pub mod Seeking
pub mod Lexing
pub mod Standing
