use Rattle.p21_express.proofs.OwnerLists.{added, added-none, name-below}
use Rattle.p21_express.proofs.named_owners.NamedOwners.add_owner.Goals as goal

pub push_at-requires : goal.push_at-requires
push_at-requires c = name-below c.args.self.now c.in-Some.at c.args.name.now c.requires c.in-Some.ensures

pub returns-in_ok-push_at-in-Some : goal.returns-in_ok-push_at-in-Some
returns-in_ok-push_at-in-Some c = added c.args.owner.0 c.in-Some.at c.args.name.now c.args.self.now c.push_at.new.self c.requires
    c.in-Some.ensures c.in_ok-push_at-in-Some.ensures.names c.in_ok-push_at-in-Some.ensures.owners

pub returns-in-None : goal.returns-in-None
returns-in-None c = added-none c.args.owner.0 c.args.name.now c.args.self.now c.in-None.ensures
