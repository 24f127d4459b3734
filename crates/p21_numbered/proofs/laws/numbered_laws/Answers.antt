use Rattle.p21_numbered.proofs.Numbering.{kept-numbered, kept-only_numbered, kept-only_renamed, kept-renamed}
use Rattle.p21_numbered.proofs.laws.numbered_laws.Goals as goal

pub returns : goal.returns
returns c = record { kept = kept-numbered; only = kept-only_numbered; renamed = kept-renamed; only_renamed = kept-only_renamed }
