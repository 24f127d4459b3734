mod HeaderExamples
pub mod HeldExamples
pub mod LayingExamples
mod NumberExamples
mod TextExamples
mod TokenExamples
pub mod BitSpellings
pub mod CanonicalLaying
pub mod CanonicalSpellings
pub mod Exponents
pub mod FirstBytes
pub mod Forms
pub mod Histories
pub mod Laying
pub mod Names
pub mod OneDepth
pub mod OneGap
pub mod OneTree
pub mod Parameters
pub mod Parentheses
pub mod Ratios
pub mod RealSpellings
pub mod ReducedDecimals
pub mod Scalars
pub mod SectionLines
pub mod SectionOrder
pub mod Semicolons
pub mod SignedNumbers
pub mod StringUnits
pub mod Texts
pub mod WholeSpellings
