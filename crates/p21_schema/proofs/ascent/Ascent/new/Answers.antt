use Rattle.p21_schema.proofs.Ascents.{none-found, unmarked}
use Rattle.p21_schema.proofs.ascent.Ascent.new.Goals as goal

pub returns-clause-ascends : goal.returns-clause-ascends
returns-clause-ascends c = none-found _ (unmarked c.in_ok-marked.marked.items c.in_ok-marked.ensures.items) c.new.ensures.items
