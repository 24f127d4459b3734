pub mod AttributeNames
pub mod NamedOwners
pub mod Candidates
pub mod Derived
pub mod Explicit
pub mod Found
pub mod RedeclarationTarget
pub mod ReadSchema
-- What the clauses of its calls cite, for callers who name this crate alone
pub use Rattle.p21_spec_basics.specs as p21_spec_basics
pub use Rattle.p21_spec_schema.specs as p21_spec_schema
pub use Rattle.p21_values.specs as p21_values
pub use Rattle.p21_express_graph.specs as p21_express_graph
pub use Rattle.p21_schema.specs as p21_schema
pub use Rattle.p21_express_outline.specs as p21_express_outline
