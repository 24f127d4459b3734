use Rattle.std.specs.Prelude.{◌≡◌, ◌+◌, ℕ, List, Option, Some, length}
use Rattle.std.proofs.Common.{ap, sym, ◌∙◌, inl, inr}
use Rattle.p21_pairing.specs.declared.alone.Holder.TheVariants.{One}
use Rattle.p21_numbering.specs.Arrays.{rank_at}
use Rattle.p21_pairing.specs.Pairs.{partner_at}
use Rattle.p21_pairing.proofs.Holding.{same-one}
use Rattle.p21_pairing.proofs.alone.with_holder_of.Goals as goal

pub with_pair-requires-clause-one : goal.with_pair-requires-clause-one
with_pair-requires-clause-one c = c.requires.one c.in-One.other c.in-One.is

pub with_pair-requires-clause-other : goal.with_pair-requires-clause-other
with_pair-requires-clause-other c = c.requires.other c.in-One.other c.in-One.is

pub returns-in-One : goal.returns-in-One
returns-in-One c =
    let kinds : List ℕ = c.args.kinds.now in
    let ps : List (Option ℕ) = c.args.pairs.partners.items in
    let os : List (Option ℕ) = c.args.pairs.owners.items in
    record {
      more = c.with_pair.ensures.more;
      joined = λ j is free free_ alike.
          let same : c.in-One.other ≡ j = same-one c.in-One.other j (sym c.in-One.is ∙ is) in
          c.with_pair.ensures.joined free (ap (partner_at os) same ∙ free_) (alike ∙ ap (λ n. rank_at kinds (length ps + n)) (sym same))
          ∙ ap (λ (n : ℕ). Some n) same;
      only = λ i j at. elim (c.with_pair.ensures.only i j at) [
        | inl before ↦ inl before
        | inr (one, other) ↦ inr (one, c.in-One.is ∙ ap One (sym other))
      ];
    }
