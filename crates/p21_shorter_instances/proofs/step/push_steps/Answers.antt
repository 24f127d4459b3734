use Rattle.std.proofs.Common.{◌≡◌, ◌++◌, ◌∷◌, [], ℕ, ◌+◌, List, ap, sym, subst, ◌∙◌, append_assoc, arith, length}
use Rattle.p21_express_graph.proofs.Lookups.{own-places-are, places-more}
use Rattle.p21_express_graph.specs.Lookups.{places_from}
use Rattle.p21_spec_schema.specs.Order.{order}
use Rattle.p21_spec_schema.specs.Schema.{Place, attributes_of}
use Rattle.p21_shorter_instances.proofs.Steps.{decided_at, owner_is, steps_more}
use Rattle.p21_shorter_instances.specs.Steps.{AreStepsAt}
use Rattle.p21_shorter_instances.specs.declared.step.Step.{Step}
use Rattle.p21_shorter_instances.proofs.step.push_steps.Goals as goal

pub attribute_count-count-requires : goal.attribute_count-count-requires
attribute_count-count-requires c = owner_is c.args.schema.now c.holds_together.ensures c.args.entity.0 c.args.owner.0 c.requires.owner
    c.requires.entity

pub step_at-requires-clause-decided : goal.step_at-requires-clause-decided
step_at-requires-clause-decided c = decided_at c.args.schema.now c.holds_together.ensures c.args.entity.0 _ c.requires.owner (omega arith)
    c.requires.decided

pub loop-index-preserved : goal.loop-index-preserved
loop-index-preserved c = λ before are.
    let s = c.args.schema.now in
    let set = order s c.args.entity.0 in
    let i = c.loop-index.index in
    let e : ℕ = c.args.owner.0 in
    let place : Place = record { entity = e; index = i } in
    let same : 0 + i ≡ i = omega arith in
    let places : places_from e 0 (i + 1) ≡ places_from e 0 i ++ place ∷ [] = places-more e 0 i
    ∙ ap (λ (k : ℕ). places_from e 0 i ++ record { entity = e; index = k } ∷ []) same in
    let more = steps_more s set (before ++ places_from e 0 i) c.loop-index.steps.items place c.in_ok-step.step
    (c.loop-index.invariant before are) c.in_ok-step.ensures in
    subst (λ (steps : List Step). AreStepsAt s set (before ++ places_from e 0 (i + 1)) steps) (sym c.in_ok-push.ensures.items)
    (subst (λ (ps : List Place). AreStepsAt s set ps (c.loop-index.steps.items ++ c.in_ok-step.step ∷ []))
    (append_assoc before (places_from e 0 i) (place ∷ []) ∙ ap (λ (x : List Place). before ++ x) (sym places)) more)

pub returns : goal.returns
returns c = λ before are.
    let s = c.args.schema.now in
    let end : c.loop-index.index ≡ length (attributes_of s c.args.owner.0) =
    omega (arith, c.attribute_count-count.ensures, c.loop-index-test.false, c.loop-index.auto.index-end) in
    subst (λ (places : List Place). AreStepsAt s (order s c.args.entity.0) places c.loop-index.steps.items)
    (ap (λ (x : List Place). before ++ x) (ap (places_from c.args.owner.0 0) end ∙ own-places-are s c.args.owner.0))
    (c.loop-index.invariant before are)
