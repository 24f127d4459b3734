use Rattle.std.specs.Prelude.{◌++◌, ◌∷◌, []}
use Rattle.std.proofs.Common.{ap, sym, ◌∙◌}
use Rattle.p21_schema.proofs.ListsAt.{items-here, items-other, items-there}
use Rattle.p21_schema.proofs.redeclarers.add_at.Goals as goal

pub returns-clause-there : goal.returns-clause-there
returns-clause-there c =
    let lists = c.reach.new.lists.items in
    items-here lists c.args.index c.push.new.self c.in_ok-reach.ensures.there
    ∙ c.in_ok-push.ensures.items ∙ ap (λ es. es ++ c.args.entity ∷ [])
    (sym (items-there lists c.args.index c.index_mut.result.now c.in_ok-reach.ensures.there c.index_mut.ensures.value)
    ∙ c.in_ok-reach.ensures.same c.args.index)

pub returns-clause-others : goal.returns-clause-others
returns-clause-others c k other = items-other c.reach.new.lists.items c.args.index k c.push.new.self other ∙ c.in_ok-reach.ensures.same k
