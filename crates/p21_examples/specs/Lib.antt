-- What the examples promise of a canonical file, of two files that are compared, and of a file that comes over a connection.
pub mod Canonical
pub mod Comparing
pub mod Receiving
