pub mod Fault
pub mod Location
pub mod Source
pub mod StatementReader
pub mod PassingOver
pub mod Place
pub mod Reopening
pub mod Laws
