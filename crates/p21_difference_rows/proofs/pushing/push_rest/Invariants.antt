use Rattle.p21_difference_rows.specs.Steps.{AddsText}
use Rattle.p21_difference_rows.proofs.pushing.push_rest.Given as goal

-- what was taken over of the bytes so far
abbrev pub invariant-loop-byte : goal.invariant-loop-byte
invariant-loop-byte l = AddsText l.fn.text.items l.text.items
