-- What the proofs of the command line share.
mod AddedCommands
