-- The laws, from the theorems.
use Rattle.p21_spec_differences.proofs.laws.difference_laws.Goals as goal
use Rattle.p21_spec_differences.proofs.Files.{headers-are_told, names-are_told, nothing-differs, sections-are_told}

pub returns : goal.returns
returns c = record { same = nothing-differs; headers = headers-are_told; sections = sections-are_told; names = names-are_told }
