-- What the program answers.
pub mod Statuses
