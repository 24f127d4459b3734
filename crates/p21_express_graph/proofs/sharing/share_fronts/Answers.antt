use Rattle.std.specs.Prelude.{ℕ, List, Contains}
use Rattle.std.proofs.Common.{arith, get_or, subst}
use Rattle.std.proofs.lemmas.List.Elements.{Contains-get_or}
use Rattle.p21_express_graph.specs.SchemaContents.{schema_of}
use Rattle.p21_express_graph.proofs.Gatherings.{mapped-length}
use Rattle.p21_express_graph.proofs.sharing.share_fronts.Goals as goal

pub share_front-requires-clause-entity : goal.share_front-requires-clause-entity
share_front-requires-clause-entity c =
    let e : ℕ = get_or c.deref-number-items.result.now c.loop-number.number-index 0 in
    let P : List ℕ → Type 0 = λ xs. Contains xs e in
    let below = c.in_ok-listed.ensures.within e (subst P c.deref-number-items.ensures.value (Contains-get_or c.deref-number-items.result.now c.loop-number.number-index 0 c.loop-number-test.true)) in
    omega (arith, below, mapped-length (λ x. x.supertypes) (schema_of c.args.parts.now).entities)
