use Rattle.std.specs.Prelude.{◌≡◌, ℕ, length}
use Rattle.p21_pairing.specs.declared.alone.Holder.TheVariants.{Nobody}
use Rattle.p21_pairing.specs.Holders.{AreHolders, holder_at}
use Rattle.p21_pairing.proofs.alone.holders.Given as goal

abbrev pub invariant-loop-key : goal.invariant-loop-key
invariant-loop-key l = record {
  size : length l.holders.items ≡ l.key;
  nobody : (n : ℕ) → holder_at l.holders.items n ≡ Nobody;
}

abbrev pub invariant-loop-k : goal.invariant-loop-k
invariant-loop-k l = record {
  size : length l.holders.items ≡ length l.keys;
  each : AreHolders l.keys l.start l.partners l.k l.holders.items;
}
