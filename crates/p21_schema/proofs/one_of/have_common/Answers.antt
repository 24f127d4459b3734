use Rattle.std.specs.Prelude.{◌≡◌, ◌<◌, ℕ, Contains, length, true, false}
use Rattle.std.proofs.Common.{arith, sym, ◌∙◌, subst, inl, inr, get_or}
use Rattle.std.proofs.lemmas.Bool.{cases_lt}
use Rattle.std.proofs.lemmas.Grind.{get_or_default_zero}
use Rattle.std.proofs.lemmas.List.Kept.{AllPairs-from_increasing}
use Rattle.p21_express_graph.proofs.Lookups.{up-to}
use Rattle.p21_schema.proofs.one_of.have_common.Goals as goal
use Rattle.p21_schema.proofs.one_of.have_common.Goals.{else-place-others-via-then-place-others+else-others-place, else-place-others-via-else-place-others}
use Rattle.p21_schema.proofs.OneOfLists.{not-there}

pub loop-number-preserved : goal.loop-number-preserved
loop-number-preserved c =
    let numbers = c.args.numbers.now in
    let others = c.args.others.now in
    let index : ℕ = c.loop-number.number-index in
    let place : ℕ = c.position_from-place.result in
    let number : ℕ = get_or numbers index 0 in
    let so_far = c.loop-number.invariant in
    let below : (k : ℕ) → k < place → get_or others k 0 < number = λ k low. elim (cases_lt k c.loop-number.place) [
      | inl h ↦ so_far.2 k index h (omega arith) c.loop-number-test.true
      | inr h ↦ c.position_from-place.ensures.below k h low
    ] in
    let apart : place < length others → get_or others place 0 ≡ number → ⊥ = λ low same. elim c.else-place-others.branch [
      | else-place-others-via-then-place-others+else-others-place w ↦ absurd (w.if-others-place.false same)
      | else-place-others-via-else-place-others w ↦ absurd (omega (arith, low, w.if-place-others.false))
    ] in (
      c.position_from-place.ensures.within,
      up-to (λ k. Contains others (get_or numbers k 0) → ⊥) index so_far.1
          (not-there others number place c.requires.others_rising below c.position_from-place.ensures.not_below apart),
      λ k i k_below from within.
          let lt = below k k_below in
          let next = AllPairs-from_increasing numbers c.requires.rising index i 0 (omega (arith, from)) within in
          omega (arith, lt, next),
    )

pub returns : goal.returns
returns c = (
  λ no. let t : false ≡ true = no in cc,
  λ (k, (i, below, is), other).
      let P : ℕ → Type 0 = λ n. Contains c.args.others.now n in
      absurd (c.loop-number.invariant.1 i (omega (arith, below, c.loop-number-test.false))
      (subst P (sym is ∙ get_or_default_zero c.args.numbers.now i k below) other)),
)
