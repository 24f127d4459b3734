use Rattle.std.proofs.Common.{◌≡◌, take}
use Rattle.p21_stream_store.proofs.same_front.are_few_same.Given as goal

-- those before are the same
abbrev pub invariant-loop-at : goal.invariant-loop-at
invariant-loop-at l = take l.at l.entities ≡ take l.at l.others
