use Rattle.p21_express_graph.specs.SettledOrder.{lists_of}
use Rattle.p21_express_outline.proofs.Settling.{settled-ends}
use Rattle.p21_express_outline.proofs.chains.check_ends.Goals as goal

pub returns-in-Some : goal.returns-in-Some
returns-in-Some c = settled-ends (lists_of c.args.nexts.now) c.in-Some._listed.items (rw c.in-Some.is at c.in_ok-_listed.ensures)
