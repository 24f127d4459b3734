use Rattle.p21_express.proofs.OwnerLists.{none-added, one-added, still-table}
use Rattle.p21_express.proofs.named_owners.NamedOwners.add_entity.Goals as goal

pub loop-index-init : goal.loop-index-init
loop-index-init c = none-added c.args.hierarchy.now c.args.owner.0 c.args.self.now

pub add_owner-requires : goal.add_owner-requires
add_owner-requires c = still-table c.args.self.now c.loop-index.self c.requires.table c.loop-index.invariant.names_are
    c.loop-index.invariant.size

pub loop-index-preserved : goal.loop-index-preserved
loop-index-preserved c = one-added c.args.hierarchy.now c.args.owner.0 c.loop-index.index c.place_name.result.now c.args.self.now
    c.loop-index.self c.add_owner.new.self c.place_name.ensures c.loop-index.invariant c.in_ok-add_owner.ensures
