use Rattle.std.specs.Prelude.{◌≡◌, ◌≢◌, ℕ, length, true, false, refl}
use Rattle.std.proofs.Common.{arith, sym, ◌∙◌, get_or}
use Rattle.std.proofs.lemmas.Bool.{eqb-true}
use Rattle.p21_express_graph.proofs.Gatherings.{numbered-at}
use Rattle.p21_express_graph.proofs.Lookups.{each-number, up-to}
use Rattle.p21_schema.specs.OneOf.{AreListedTogether}
use Rattle.p21_schema.proofs.schema.Schema.clashes_with.Goals as goal
use Rattle.p21_schema.proofs.schema.Schema.clashes_with.Goals.{else-other-entity-via-then-other-entity+else-have_common, else-other-entity-via-else-other-entity}

pub returns-then-is_empty : goal.returns-then-is_empty
returns-then-is_empty c = (
  λ no. let t : false ≡ true = no in cc,
  λ (f, among, differ, (k, is, is_)).
      let (i, below, at) = (c.lists_with-lists.ensures.each k).1 is in
      let none : length c.lists_with-lists.result.now ≡ 0 =
      eqb-true (length c.lists_with-lists.result.now) 0 (sym c.is_empty.ensures ∙ c.if-is_empty.true) in
      absurd (omega (arith, below, none)),
)

pub returns-then-have_common : goal.returns-then-have_common
returns-then-have_common c =
    let f : ℕ = (get_or c.args.entities.now c.loop-other.other-index record { 0 = 0 }).0 in
    let (k, has, has_) = c.have_common.ensures.0 c.if-have_common.true in (
      λ yes. (
        f,
        numbered-at (λ e. e.0) c.args.entities.now c.loop-other.other-index record { 0 = 0 } c.loop-other-test.true,
        c.if-other-entity.true,
        (k, (c.lists_with-lists.ensures.each k).0 has, (c.lists_with.ensures.each k).0 has_),
      ),
      λ clash. refl,
    )

pub loop-other-preserved : goal.loop-other-preserved
loop-other-preserved c = up-to (λ k. (get_or c.args.entities.now k record { 0 = 0 }).0 ≢ c.args.entity.0
    → AreListedTogether c.args.self.now c.args.entity.0 (get_or c.args.entities.now k record { 0 = 0 }).0 → ⊥) c.loop-other.other-index
    c.loop-other.invariant
    (λ differ (k, is, is_). elim c.else-other-entity.branch [
      | else-other-entity-via-then-other-entity+else-have_common w ↦ let t : true ≡ false =
          sym (w.have_common.ensures.1 (k, (c.lists_with-lists.ensures.each k).1 is, (w.lists_with.ensures.each k).1 is_))
          ∙ w.if-have_common.false in cc
      | else-other-entity-via-else-other-entity w ↦ absurd (differ w.if-other-entity.false)
    ])

pub returns : goal.returns
returns c = (
  λ no. let t : false ≡ true = no in cc,
  λ (f, among, differ, together). absurd (each-number (λ e. e.0) record { 0 = 0 }
      (λ x. x ≢ c.args.entity.0 → AreListedTogether c.args.self.now c.args.entity.0 x → ⊥) c.args.entities.now f
      (λ k below. c.loop-other.invariant k (omega (arith, below, c.loop-other-test.false))) among differ together),
)
