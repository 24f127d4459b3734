use Rattle.std.specs.Prelude.{◌≡◌, ◌↔◌, List, Contains, map}
use Rattle.std.proofs.Common.{arith, ap, subst, ◌∙◌}
use Rattle.std.proofs.lemmas.List.{take_all}
use Rattle.p21_numbering.specs.Arrays.{Edge}
use Rattle.p21_numbering.specs.Edges.{turned_edge}
use Rattle.p21_numbering.proofs.edges.turned.Goals as goal

pub returns-clause-members : goal.returns-clause-members
returns-clause-members c e =
    let P : List Edge → Type 0 = λ es. Contains c.in_order.result.items e ↔ Contains es e in
    let all : c.loop-edge.turned.items ≡ map turned_edge c.args.edges.now = c.loop-edge.invariant
    ∙ ap (map turned_edge) (take_all c.loop-edge.edge-index c.args.edges.now (omega (arith, c.loop-edge-test.false))) in
    subst P all (c.in_order.ensures.members e)
