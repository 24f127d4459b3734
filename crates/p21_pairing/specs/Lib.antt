pub mod Population
pub mod Kinds
pub mod Pairs
pub mod Holders
pub mod Left
pub mod Names
pub mod Partners
pub mod Clauses
