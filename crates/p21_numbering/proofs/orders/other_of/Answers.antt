use Rattle.std.specs.Prelude.{◌≡◌, ◌≢◌, List}
use Rattle.std.proofs.Common.{arith, ap, sym, subst, ◌∙◌, inl, inr}
use Rattle.std.proofs.lemmas.Bool.{cases_eq}
use Rattle.std.proofs.lemmas.List.{length-map}
use Rattle.p21_numbering.specs.Ranked.{Ranked, held_instance, held_instances, ranked_at}
use Rattle.p21_numbering.proofs.orders.other_of.Goals as goal

pub loop-k-preserved : goal.loop-k-preserved
loop-k-preserved c j low rank differ =
    let all : List Ranked = held_instances c.args.instances.now in
    let P : Ranked → Type 0 = λ r. r.rank ≡ c.args.rank → r.name ≢ c.args.name → ⊥ in
    elim (cases_eq j c.loop-k.k) [
      | inl same ↦ subst P (c.at-one.ensures ∙ ap (ranked_at all) (sym same)) (c.is_other.ensures.no c.if-is_other.false) rank differ
      | inr other ↦ c.loop-k.invariant j (omega (arith, low, other)) rank differ
    ]

pub returns-then-is_other : goal.returns-then-is_other
returns-then-is_other c k low rank differ =
    let (same, other) = c.is_other.ensures.yes c.if-is_other.true in (
      c.loop-k.k,
      omega (arith, c.loop-k-test.true, length-map c.args.instances.now held_instance),
      sym
          (ap (λ (r : Ranked). r.name) c.at-one.ensures),
      sym (ap (λ (r : Ranked). r.rank) c.at-one.ensures) ∙ same,
      other,
    )

pub returns : goal.returns
returns c k low rank differ = absurd (c.loop-k.invariant k
    (omega (arith, low, c.loop-k-test.false, length-map c.args.instances.now held_instance)) rank differ)
