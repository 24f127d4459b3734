use Rattle.std.proofs.Common.{sym, ◌∙◌}
use Rattle.p21_schema.proofs.ListsAt.{items-past, items-there}
use Rattle.p21_schema.proofs.redeclarers.entities_at.Goals as goal

pub returns-in-Some : goal.returns-in-Some
returns-in-Some c = c.deref.ensures.value ∙ sym (items-there c.args.lists.now c.args.index c.in-Some.entities.now
    c.in-Some.ensures.lookup.3.0 c.in-Some.ensures.lookup.1)

pub returns-in-None : goal.returns-in-None
returns-in-None c = sym (items-past c.args.lists.now c.args.index c.in-None.ensures.lookup.3)
