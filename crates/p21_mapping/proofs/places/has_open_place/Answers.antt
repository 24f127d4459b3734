use Rattle.std.specs.Prelude.{ℕ, List, Contains}
use Rattle.std.proofs.Common.{arith, get_or, sym, subst}
use Rattle.std.proofs.lemmas.Bool.{MatchBool-at_false, MatchBool-at_true}
use Rattle.p21_spec_basics.proofs.Members.{Each-of_members}
use Rattle.p21_express_graph.proofs.Gatherings.{numbered-at}
use Rattle.p21_express_graph.proofs.Lookups.{each-number, up-to}
use Rattle.p21_spec_file.specs.Meaning.{HasPlaceTypes}
use Rattle.p21_mapping.proofs.places.has_open_place.Goals as goal

pub has_open_place_of-requires-clause-entity : goal.has_open_place_of-requires-clause-entity
has_open_place_of-requires-clause-entity c =
    let e : ℕ = (get_or c.entities-entities.result.now c.loop-entity.entity-index record { 0 = 0 }).0 in
    c.requires e (subst (λ (es : List ℕ). Contains es e) c.entities-entities.ensures
    (numbered-at (λ x. x.0) c.entities-entities.result.now c.loop-entity.entity-index record { 0 = 0 } c.loop-entity-test.true))

pub returns-then-found : goal.returns-then-found
returns-then-found c =
    let e : ℕ = (get_or c.entities-entities.result.now c.loop-entity.entity-index record { 0 = 0 }).0 in (
      e,
      subst (λ (es : List ℕ). Contains es e) c.entities-entities.ensures
          (numbered-at (λ x. x.0) c.entities-entities.result.now c.loop-entity.entity-index record { 0 = 0 } c.loop-entity-test.true),
      MatchBool-at_true _ _ c.if-found.true c.in_ok-found.ensures,
    )

pub loop-entity-preserved : goal.loop-entity-preserved
loop-entity-preserved c =
    up-to (λ k. HasPlaceTypes c.args.schema.now c.args.set.now (get_or c.entities-entities.result.now k record { 0 = 0 }).0)
    c.loop-entity.entity-index c.loop-entity.invariant (MatchBool-at_false _ _ c.if-found.false c.in_ok-found.ensures)

pub returns : goal.returns
returns c =
    let P : ℕ → Type 0 = λ e. HasPlaceTypes c.args.schema.now c.args.set.now e in
    Each-of_members P c.args.set.now (λ e among. each-number (λ x. x.0) record { 0 = 0 } P c.entities-entities.result.now e
    (λ k below. c.loop-entity.invariant k (omega (arith, below, c.loop-entity-test.false)))
    (subst (λ (es : List ℕ). Contains es e) (sym c.entities-entities.ensures) among))
