use Rattle.std.specs.Prelude.{◌++◌, ◌∷◌, []}
use Rattle.std.proofs.Common.{ap, sym, ◌∙◌}
use Rattle.p21_express_graph.specs.Meaning.{kind}
use Rattle.p21_express_graph.specs.DirectRenaming.{direct_renaming}
use Rattle.p21_express_graph.proofs.direct_renaming.renamed_list.Goals as goal
use Rattle.p21_express_graph.proofs.direct_renaming.renamed_list.Goals.{in-Some+in_ok-push-in-Some, in-None}
use Rattle.p21_express_graph.proofs.Ends.{none-renamed}

pub returns : goal.returns
returns c = elim c.match-direct_renaming.branch [
  | in-Some+in_ok-push-in-Some w ↦ ap (λ v. v.items) w.list-is ∙ w.in_ok-push-in-Some.ensures.items ∙ ap (λ ns. ns ++ w.in-Some.next.0 ∷ []) c.new-list.ensures.items ∙ sym (ap direct_renaming w.in-Some.ensures)
  | in-None w ↦ ap (λ v. v.items) w.list-is ∙ c.new-list.ensures.items ∙ sym (none-renamed (kind c.args.kind.now) w.in-None.ensures)
]
