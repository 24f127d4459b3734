use Rattle.std.proofs.Common.{◌≡◌, ◌+◌, ◌≤◌, length}
use Rattle.p21_express_lexemes.specs.Skipping.{skip, remark}
use Rattle.p21_express_lexemes.proofs.skip.behind_remark.Given as goal

-- what is left leads on as the bytes do, and each open remark took two bytes
abbrev pub invariant-loop-rest : goal.invariant-loop-rest
invariant-loop-rest l = record {
  leads : skip (remark 0) l.bytes ≡ skip (remark l.inner) l.rest;
  shorter : l.inner + length l.rest ≤ length l.bytes;
}

abbrev pub decreases-loop-rest : goal.decreases-loop-rest
decreases-loop-rest l = length l.rest
