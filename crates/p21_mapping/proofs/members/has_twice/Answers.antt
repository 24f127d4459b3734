use Rattle.std.specs.Prelude.{List, ℕ, slice_get, Contains}
use Rattle.std.proofs.Common.{arith, sym, ◌∙◌, ap, subst, get_or}
use Rattle.std.proofs.lemmas.List.{take_all}
use Rattle.p21_spec_basics.proofs.Shuffles.{NoneTwice, none_twice-distinct}
use Rattle.p21_express_graph.specs.Orders.{numbers}
use Rattle.p21_mapping.proofs.Placing.{not-earlier}
use Rattle.p21_mapping.proofs.GrownLists.{mapped-at, numbered, NoneTwice-more}
use Rattle.p21_mapping.proofs.members.has_twice.Goals as goal

pub unreachable-requires : goal.unreachable-requires
unreachable-requires c =
    let e : ℕ = (get_or c.entities-entities.result.now c.loop-at.at record { 0 = 0 }).0 in
    let P : List ℕ → Type 0 = λ xs. Contains xs e in
    c.in_default.ensures (subst P c.entities-entities.ensures
    (numbered (λ x. x.0) c.entities-entities.result.now c.loop-at.at record { 0 = 0 } c.loop-at-test.true))

pub returns-then-first-at : goal.returns-then-first-at
returns-then-first-at c = (
  c.in-Some.first,
  c.loop-at.at,
  (get_or c.entities-entities.result.now c.loop-at.at record { 0 = 0 }).0,
  c.if-first-at.true,
  c.in-Some.ensures.0,
  ap (λ (xs : List ℕ). slice_get xs c.loop-at.at) (sym c.entities-entities.ensures)
      ∙ mapped-at (λ x. x.0) c.entities-entities.result.now c.loop-at.at record { 0 = 0 } c.loop-at-test.true,
)

pub loop-at-preserved : goal.loop-at-preserved
loop-at-preserved c =
    let e : ℕ = (get_or c.entities-entities.result.now c.loop-at.at record { 0 = 0 }).0 in
    NoneTwice-more (λ x. x.0) c.entities-entities.result.now c.loop-at.at record { 0 = 0 } c.loop-at-test.true c.loop-at.invariant
    (not-earlier (λ x. x.0) c.entities-entities.result.now c.loop-at.at e
    (λ k below is. c.in-Some.ensures.1 k (omega (arith, below, c.if-first-at.false))
    (ap (λ (xs : List ℕ). slice_get xs k) (sym c.entities-entities.ensures) ∙ is)))

pub returns : goal.returns
returns c =
    let P : List ℕ → Type 0 = λ xs. NoneTwice xs in
    none_twice-distinct _ (subst P (ap numbers (take_all c.loop-at.at c.entities-entities.result.now c.loop-at-test.false)
    ∙ c.entities-entities.ensures) c.loop-at.invariant)
