use Rattle.std.proofs.Common.{ap, sym}
use Rattle.p21_express_graph.specs.Orders.{numbers}
use Rattle.p21_express_graph.proofs.prefixes.PrefixLists.run.Goals as goal
use Rattle.p21_express_graph.proofs.Walks.{nexts_at}

pub returns : goal.returns
returns c = sym (nexts_at (λ x. numbers x.items) c.args.self.now.runs.items c.args.run c.index.result.now (numbers c.deref.result.now) c.requires c.index.ensures (ap numbers c.deref.ensures.value))
