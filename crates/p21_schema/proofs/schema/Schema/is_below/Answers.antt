use Rattle.std.specs.Prelude.{◌≡◌, ℕ, true, false, refl}
use Rattle.std.proofs.Common.{arith, sym, ◌∙◌, get_or}
use Rattle.p21_spec_schema.specs.Supertype.{IsA}
use Rattle.p21_express_graph.specs.Meaning.{place}
use Rattle.p21_express_graph.proofs.Gatherings.{numbered-at}
use Rattle.p21_express_graph.proofs.Lookups.{each-number, up-to}
use Rattle.p21_schema.specs.Decisions.{IsRedeclaring}
use Rattle.p21_schema.proofs.schema.Schema.is_below.Goals as goal
use Rattle.p21_schema.proofs.schema.Schema.is_below.Goals.{else-redeclares-via-then-redeclares+else-not-is_a, else-redeclares-via-else-redeclares}

pub redeclares-requires-clause-entity : goal.redeclares-requires-clause-entity
redeclares-requires-clause-entity c = c.requires.entities (get_or c.args.entities.now c.loop-other.other-index record { 0 = 0 }).0
    (numbered-at (λ e. e.0) c.args.entities.now c.loop-other.other-index record { 0 = 0 } c.loop-other-test.true)

pub returns : goal.returns
returns c = (
  λ yes f among redeclares.
      let P : ℕ → Type 0 = λ e. IsRedeclaring c.args.self.now c.args.own (place c.args.place) e → IsA c.args.self.now c.args.entity.0 e in
      each-number (λ e. e.0) record { 0 = 0 } P c.args.entities.now f
      (λ k below. c.loop-other.invariant k (omega (arith, below, c.loop-other-test.false))) among redeclares,
  λ below. refl,
)

pub returns-then-not-is_a : goal.returns-then-not-is_a
returns-then-not-is_a c =
    let e : ℕ = (get_or c.args.entities.now c.loop-other.other-index record { 0 = 0 }).0 in (
      λ no. let t : false ≡ true = no in cc,
      λ below.
          let is_a = below e (numbered-at (λ x. x.0) c.args.entities.now c.loop-other.other-index record { 0 = 0 } c.loop-other-test.true)
          (c.redeclares.ensures.0 c.if-redeclares.true) in
          let t : true ≡ false = sym (c.is_a.ensures.1 is_a) ∙ c.if-not-is_a.true in cc,
    )

pub loop-other-preserved : goal.loop-other-preserved
loop-other-preserved c = up-to (λ k. IsRedeclaring c.args.self.now c.args.own (place c.args.place)
    (get_or c.args.entities.now k record { 0 = 0 }).0 → IsA c.args.self.now c.args.entity.0
    (get_or c.args.entities.now k record { 0 = 0 }).0) c.loop-other.other-index c.loop-other.invariant
    (λ redeclares. elim c.else-redeclares.branch [
      | else-redeclares-via-then-redeclares+else-not-is_a w ↦ w.is_a.ensures.0 w.if-not-is_a.false
      | else-redeclares-via-else-redeclares w ↦ let t : true ≡ false = sym (c.redeclares.ensures.1 redeclares) ∙ w.if-redeclares.false in cc
    ])
