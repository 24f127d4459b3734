use Rattle.p21_express_graph.specs.Orders.{numbers}
use Rattle.p21_express.proofs.OwnerLists.{name-below, owners-found}
use Rattle.p21_express.proofs.named_owners.NamedOwners.find.Goals as goal

pub owners_at-requires : goal.owners_at-requires
owners_at-requires c = name-below c.args.self.now c.in-Some.at c.args.name.now c.requires.table_is c.in-Some.ensures

pub returns-in-Some : goal.returns-in-Some
returns-in-Some c = owners-found c.args.hierarchy.now c.args.self.now c.in-Some.at c.args.name.now (numbers c.owners_at.result.now)
    c.requires c.in-Some.ensures c.owners_at.ensures
