-- What is sifted of a file, what each statement does to that, and the references that no instance serves.
pub mod Sifting
pub mod SieveSteps
pub mod Unserved
