use Rattle.std.proofs.Common.{◌≡◌, map, take}
use Rattle.p21_stream.specs.Survey.{refusal_of}
use Rattle.p21_stream.proofs.listing.without_begins.Given as goal

-- those so far
abbrev pub invariant-loop-listed : goal.invariant-loop-listed
invariant-loop-listed l = l.refusals.items ≡ map refusal_of (take l.listed-index l.list)
