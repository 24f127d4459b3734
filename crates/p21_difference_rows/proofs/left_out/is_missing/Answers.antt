use Rattle.std.specs.Prelude.{◌≡◌, Bool, true, false, not}
use Rattle.std.proofs.Common.{inl, inr, refl}
use Rattle.p21_difference_rows.proofs.left_out.is_missing.Goals as goal

so-true : (b : Bool) → not b ≡ false → b ≡ true
so-true true is = refl
so-true false is = cc

so-false : (b : Bool) → not b ≡ true → b ≡ true → ⊥
so-false true is holds = cc
so-false false is holds = cc

pub returns-then-is_of_header : goal.returns-then-is_of_header
returns-then-is_of_header c = record {
  missing = λ told. cc;
  meant = λ same. inr (c.is_of_header.ensures c.if-is_of_header.true);
}

pub returns : goal.returns
returns c = record {
  missing = λ told known. so-false c.is_known.result told (c.is_known.ensures.1 known);
  meant = λ same. inl (c.is_known.ensures.0 (so-true c.is_known.result same));
}
