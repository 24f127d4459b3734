mod BrokenExamples
mod BrokenLists
mod BrokenPlaces
mod BrokenRecords
mod CanonicalExamples
mod ClashAbove
mod CloudExample
mod GrammarExamples
mod HeldDemo
mod HeldNamed
mod CanonicalTextExamples
mod LeftOutParts
mod MeaningExamples
mod NamedExample
mod NamedPoints
mod OneOfExamples
mod SectionExamples
mod ValueExamples
mod ValueTextExamples
pub mod BrokenRules
pub mod BrokenValues
pub mod Commas
pub mod Dead
pub mod DemoExample
pub mod FitsWider
pub mod HeldStatements
pub mod OneMeaning
pub mod OneValue
pub mod RecordSets
pub mod Repeated
pub mod SameFiles
pub mod Sameness
pub mod Served
pub mod Taken
pub mod Transitive
