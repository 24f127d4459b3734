-- What the command line may say.
pub mod CommandLine
