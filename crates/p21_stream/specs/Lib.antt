-- Pieces and histories of a session; what the calls on whole files answer, what they read and write, and what is claimed of them.
pub mod Walk
pub mod Session
pub mod Laws
pub mod Held
pub mod Histories
pub mod Ending
pub mod Bounds
pub mod Checked
pub mod Canonical
pub mod Inside
pub mod Taking
pub mod Answers
pub mod Claim
pub mod Feeding
pub mod ReaderInput
pub mod Survey
pub mod SurveyFeeding
pub mod Alone
pub mod Listed
-- What the clauses of its calls cite, for callers who name this crate alone
pub use Rattle.p21_spec_basics.specs as p21_spec_basics
pub use Rattle.p21_spec_exchange.specs as p21_spec_exchange
pub use Rattle.p21_spec_schema.specs as p21_spec_schema
pub use Rattle.p21_spec_file.specs as p21_spec_file
pub use Rattle.p21_spec_laws.specs as p21_spec_laws
pub use Rattle.p21_values.specs as p21_values
pub use Rattle.p21_tokens.specs as p21_tokens
pub use Rattle.p21_grammar.specs as p21_grammar
pub use Rattle.p21_express.specs as p21_express
pub use Rattle.p21_express_outline.specs as p21_express_outline
pub use Rattle.p21_express_graph.specs as p21_express_graph
pub use Rattle.p21_schema.specs as p21_schema
pub use Rattle.p21_grammar_tree.specs as p21_grammar_tree
pub use Rattle.p21_mapping_values.specs as p21_mapping_values
pub use Rattle.p21_stream_statements.specs as p21_stream_statements
pub use Rattle.p21_stream_kept.specs as p21_stream_kept
pub use Rattle.p21_stream_sieve.specs as p21_stream_sieve
pub use Rattle.p21_spec_survey.specs as p21_spec_survey
pub use Rattle.p21_stream_survey.specs as p21_stream_survey
pub use Rattle.p21_stream_io.specs as p21_stream_io
pub use Rattle.p21_stream_store.specs as p21_stream_store
pub use Rattle.p21_stream_output.specs as p21_stream_output
