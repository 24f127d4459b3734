use Rattle.p21_express.specs.NamedOwners.{AddsOwners}
use Rattle.p21_express.proofs.named_owners.NamedOwners.add_entity.Given as goal

abbrev pub invariant-loop-index : goal.invariant-loop-index
invariant-loop-index l = AddsOwners l.hierarchy l.owner.0 l.index l.fn.self l.self
