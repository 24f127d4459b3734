use Rattle.std.specs.Prelude.{◌≡◌, ℕ, List, None}
use Rattle.std.proofs.Common.{arith, ap, sym, subst, ◌∙◌, inl, inr}
use Rattle.std.proofs.lemmas.Bool.{cases_eq}
use Rattle.std.proofs.lemmas.List.{length-map}
use Rattle.p21_numbering.specs.Ranked.{Ranked, held_instance, held_instances, ranked_at}
use Rattle.p21_numbering.proofs.orders.first_loose.Goals as goal

pub loop-k-preserved : goal.loop-k-preserved
loop-k-preserved c j low =
    let all : List Ranked = held_instances c.args.instances.now in
    let P : ℕ → Type 0 = λ i. (ranked_at all i).loose ≡ None in
    elim (cases_eq j c.loop-k.k) [
      | inl same ↦ subst P (sym same) (sym (ap (λ (r : Ranked). r.loose) c.at.ensures) ∙ c.in-None.is)
      | inr other ↦ c.loop-k.invariant j (omega (arith, low, other))
    ]

pub returns-in-Some : goal.returns-in-Some
returns-in-Some c = (
  c.loop-k.k,
  omega (arith, c.loop-k-test.true, length-map c.args.instances.now held_instance),
  sym
      (ap (λ (r : Ranked). r.loose) c.at.ensures) ∙ c.in-Some.is,
)
