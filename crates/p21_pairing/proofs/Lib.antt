pub mod MorePairs
pub mod Holding
pub mod Leaving
pub mod KindRows
pub mod JointNodes
pub mod Matched
pub mod NewNames
