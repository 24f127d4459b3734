pub mod Bits
pub mod Canonical
pub mod Fault
pub mod Name
pub mod Decimal
pub mod RealComponents
pub mod ByteStorage
pub mod Stored
pub mod Word
pub mod Prefix
-- What the clauses of its calls cite, for callers who name this crate alone
pub use Rattle.p21_spec_basics.specs as p21_spec_basics
pub use Rattle.p21_spec_exchange.specs as p21_spec_exchange
