use Rattle.std.specs.Prelude.{◌≡◌, ℕ, true, false, refl}
use Rattle.std.proofs.Common.{arith, sym, ◌∙◌, subst, get_or}
use Rattle.p21_express_graph.specs.Meaning.{place}
use Rattle.p21_express_graph.proofs.Gatherings.{numbered-at}
use Rattle.p21_express_graph.proofs.Lookups.{unnumbered, up-to}
use Rattle.p21_schema.specs.Decisions.{IsDeriving}
use Rattle.p21_schema.proofs.schema.Schema.is_derived_in.Goals as goal

pub derives-requires-clause-entity : goal.derives-requires-clause-entity
derives-requires-clause-entity c = c.requires.entities (get_or c.args.entities.now c.loop-entity.entity-index record { 0 = 0 }).0
    (numbered-at (λ e. e.0) c.args.entities.now c.loop-entity.entity-index record { 0 = 0 } c.loop-entity-test.true)

pub returns-then-derives : goal.returns-then-derives
returns-then-derives c = (
  λ yes. (
    (get_or c.args.entities.now c.loop-entity.entity-index record { 0 = 0 }).0,
    numbered-at (λ e. e.0) c.args.entities.now
        c.loop-entity.entity-index record { 0 = 0 } c.loop-entity-test.true,
    c.derives.ensures.0 c.if-derives.true,
  ),
  λ some. refl,
)

pub returns : goal.returns
returns c =
    let P : ℕ → Type 0 = λ e. IsDeriving c.args.self.now c.args.own (place c.args.place) e in (
      λ no. let t : false ≡ true = no in cc,
      λ (e, among, derives). absurd (unnumbered (λ e. e.0) record { 0 = 0 } c.args.entities.now e
          (λ k below is. c.loop-entity.invariant k (omega (arith, below, c.loop-entity-test.false)) (subst P (sym is) derives)) among),
    )

pub loop-entity-preserved : goal.loop-entity-preserved
loop-entity-preserved c = up-to (λ k. IsDeriving c.args.self.now c.args.own (place c.args.place)
    (get_or c.args.entities.now k record { 0 = 0 }).0 → ⊥) c.loop-entity.entity-index c.loop-entity.invariant
    (λ derived. let t : true ≡ false = sym (c.derives.ensures.1 derived) ∙ c.if-derives.false in cc)
