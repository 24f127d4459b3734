use Rattle.std.proofs.Common.{◌≡◌, ℕ, ◌-◌, ◌<◌, ◌≤◌, true, length, get_or}
use Rattle.p21_express_lexemes.specs.Bytes.{is_of}
use Rattle.p21_express_lexemes.proofs.bytes.split_of.Given as goal

-- the bytes so far are of the class
abbrev pub invariant-loop-count : goal.invariant-loop-count
invariant-loop-count l = record {
  within : l.count ≤ length l.bytes;
  each : (k : ℕ) → k < l.count → is_of l.class (get_or l.bytes k 0) ≡ true;
}

abbrev pub decreases-loop-count : goal.decreases-loop-count
decreases-loop-count l = length l.bytes - l.count
