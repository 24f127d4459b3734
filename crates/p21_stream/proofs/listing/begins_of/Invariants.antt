use Rattle.std.proofs.Common.{◌≡◌, map, take}
use Rattle.p21_stream_survey.specs.declared.listed.Listed.{Listed}
use Rattle.p21_stream.proofs.listing.begins_of.Given as goal

-- those so far
abbrev pub invariant-loop-listed : goal.invariant-loop-listed
invariant-loop-listed l = l.begins.items ≡ map (λ (refusal : Listed). refusal.begins) (take l.listed-index l.list)
