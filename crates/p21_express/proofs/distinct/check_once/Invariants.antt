use Rattle.std.proofs.Common.{take}
use Rattle.p21_express.proofs.Keys.{AreSeen}
use Rattle.p21_express.proofs.distinct.check_once.Given as goal

-- those so far are seen
abbrev pub invariant-loop-place : goal.invariant-loop-place
invariant-loop-place l = AreSeen (take l.place-index l.places) l.seen.keys
