pub mod Shape
pub mod Stage
pub mod Statements
pub mod Machine
pub mod Fault
pub mod HeadingShape
pub mod Runs
pub mod Sound
pub mod Held
pub mod Histories
pub mod Inside
pub mod Between
pub mod Reopening
pub mod Kind
pub mod Expected
pub mod Begins
-- What the clauses of its calls cite, for callers who name this crate alone
pub use Rattle.p21_spec_basics.specs as p21_spec_basics
pub use Rattle.p21_spec_exchange.specs as p21_spec_exchange
pub use Rattle.p21_values.specs as p21_values
pub use Rattle.p21_tokens_automaton.specs as p21_tokens_automaton
pub use Rattle.p21_tokens.specs as p21_tokens
pub use Rattle.p21_grammar_tree.specs as p21_grammar_tree
