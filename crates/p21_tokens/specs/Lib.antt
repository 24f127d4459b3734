pub mod Fault
pub mod Token
pub mod Held
pub mod Steps
pub mod Histories
pub mod Parameter
pub mod Finding
pub mod Prefix
pub mod Passing
pub mod Reopening
-- What the clauses of its calls cite, for callers who name this crate alone
pub use Rattle.p21_spec_basics.specs as p21_spec_basics
pub use Rattle.p21_spec_exchange.specs as p21_spec_exchange
pub use Rattle.p21_values.specs as p21_values
pub use Rattle.p21_tokens_automaton.specs as p21_tokens_automaton
