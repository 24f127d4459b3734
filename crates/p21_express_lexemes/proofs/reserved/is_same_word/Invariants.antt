use Rattle.std.proofs.Common.{◌≡◌, ℕ, ◌-◌, ◌<◌, ◌≤◌, length, get_or}
use Rattle.p21_spec_schema.specs.Express.{upper}
use Rattle.p21_express_lexemes.proofs.reserved.is_same_word.Given as goal

-- the bytes so far are those of the word
abbrev pub invariant-loop-count : goal.invariant-loop-count
invariant-loop-count l = record {
  within : l.count ≤ length l.bytes;
  same : (k : ℕ) → k < l.count → upper (get_or l.bytes k 0) ≡ get_or l.word k 0;
}

abbrev pub decreases-loop-count : goal.decreases-loop-count
decreases-loop-count l = length l.bytes - l.count
