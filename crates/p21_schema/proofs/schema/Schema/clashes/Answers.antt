use Rattle.std.specs.Prelude.{◌≡◌, ℕ, List, Contains, Some, true, false, refl}
use Rattle.std.proofs.Common.{arith, sym, ◌∙◌, subst, get_or}
use Rattle.p21_spec_basics.proofs.Members.{Contains-at, Contains-found}
use Rattle.p21_express_graph.specs.Orders.{numbers}
use Rattle.p21_express_graph.proofs.Gatherings.{numbered-at}
use Rattle.p21_express_graph.proofs.Lookups.{each-number, up-to}
use Rattle.p21_schema.specs.OneOf.{ClashesWith}
use Rattle.p21_schema.proofs.schema.Schema.clashes.Goals as goal

pub returns-then-clashes_with : goal.returns-then-clashes_with
returns-then-clashes_with c = (
  λ yes.
      let (f, among, differ, (k, (listed, at, has), (listed_, at_, has_))) = c.clashes_with.ensures.0 c.if-clashes_with.true in
      let e : ℕ = (get_or c.args.entities.now c.loop-entity.entity-index record { 0 = 0 }).0 in
      let same : listed_ ≡ listed = (let both : Some listed_ ≡ Some listed = sym at_ ∙ at in cc) in
      let P : List ℕ → Type 0 = λ es. Contains es f in (
        listed,
        Contains-found c.args.self.now.one_of_lists k listed at,
        (
          e,
          f,
          has,
          subst P same has_,
          (λ is. differ (sym is)),
          numbered-at (λ x. x.0) c.args.entities.now c.loop-entity.entity-index
              record { 0 = 0 } c.loop-entity-test.true,
          among,
        ),
      ),
  λ clash. refl,
)

pub loop-entity-preserved : goal.loop-entity-preserved
loop-entity-preserved c = up-to (λ k. ClashesWith c.args.self.now (numbers c.args.entities.now)
    (get_or c.args.entities.now k record { 0 = 0 }).0 → ⊥) c.loop-entity.entity-index c.loop-entity.invariant
    (λ clash. let t : true ≡ false = sym (c.clashes_with.ensures.1 clash) ∙ c.if-clashes_with.false in cc)

pub returns : goal.returns
returns c = (
  λ no. let t : false ≡ true = no in cc,
  λ (listed, listed_among, (e, f, has, has_, differ, among, among_)).
      let (k, at) = Contains-at c.args.self.now.one_of_lists listed listed_among in
      absurd (each-number (λ x. x.0) record { 0 = 0 } (λ x. ClashesWith c.args.self.now (numbers c.args.entities.now) x → ⊥)
      c.args.entities.now e (λ i below. c.loop-entity.invariant i (omega (arith, below, c.loop-entity-test.false))) among
      (f, among_, λ same. differ (sym same), (k, (listed, at, has), (listed, at, has_)))),
)
