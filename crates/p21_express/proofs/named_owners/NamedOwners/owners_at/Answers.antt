use Rattle.std.proofs.Common.{ap, sym}
use Rattle.p21_express_graph.specs.Orders.{numbers}
use Rattle.p21_express_graph.proofs.Walks.{nexts_at}
use Rattle.p21_express.proofs.named_owners.NamedOwners.owners_at.Goals as goal

pub returns : goal.returns
returns c = sym (nexts_at (λ x. numbers x.items) c.args.self.now.owners.items c.args.at c.index.result.now (numbers c.deref.result.now)
    c.requires c.index.ensures (ap numbers c.deref.ensures.value))
