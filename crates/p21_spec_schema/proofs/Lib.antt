mod BoundaryExamples
mod DeclarationExamples
mod DeclaredExamples
mod LexemeExamples
mod OneOfLists
pub mod OrderExamples
pub mod PlaceTypeExamples
mod RedeclarationExamples
mod RefusedExamples
pub mod DeclaredSchemas
pub mod OneOfOrRun
pub mod OneOfReadings
pub mod OrderedOnce
pub mod Orders
pub mod OwnPlaces
pub mod PlaceTypes
pub mod Ranks
mod Scanned
pub mod SchemaNames
pub mod SoleSchema
mod SoleText
pub mod TestSchemas
