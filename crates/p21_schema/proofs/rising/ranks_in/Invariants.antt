use Rattle.std.proofs.Common.{◌≡◌, map, slice_index_or, take}
use Rattle.p21_express_graph.specs.Orders.{numbers}
use Rattle.p21_schema.proofs.rising.ranks_in.Given as goal

abbrev pub invariant-loop-entity : goal.invariant-loop-entity
invariant-loop-entity l = l.found.items ≡ map (λ e. slice_index_or l.ranks e 0) (numbers (take l.entity-index l.entities))
