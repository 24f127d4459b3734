-- The header in words, and the keywords counted.
pub mod HeaderText
pub mod KeywordCounts
