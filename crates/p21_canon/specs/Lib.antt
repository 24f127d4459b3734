pub mod Meant
pub mod StatementTexts
pub mod Statement
pub mod Occurrences
-- What the clauses of its calls cite, for callers who name this crate alone
pub use Rattle.p21_spec_basics.specs as p21_spec_basics
pub use Rattle.p21_spec_exchange.specs as p21_spec_exchange
pub use Rattle.p21_spec_schema.specs as p21_spec_schema
pub use Rattle.p21_spec_file.specs as p21_spec_file
pub use Rattle.p21_spec_laws.specs as p21_spec_laws
pub use Rattle.p21_values.specs as p21_values
pub use Rattle.p21_grammar_tree.specs as p21_grammar_tree
pub use Rattle.p21_express_graph.specs as p21_express_graph
pub use Rattle.p21_schema.specs as p21_schema
pub use Rattle.p21_mapping_values.specs as p21_mapping_values
