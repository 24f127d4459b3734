use Rattle.std.specs.Prelude.{◌≡◌, ◌++◌, ◌∷◌, [], drop}
use Rattle.std.specs.List.{flat_map}
use Rattle.p21_express_graph.specs.Closed.{AreClosed}
use Rattle.p21_express_graph.specs.Gathering.{add_firsts}
use Rattle.p21_express_graph.specs.Prefixes.{lists_in}
use Rattle.p21_express_graph.specs.Orders.{numbers}
use Rattle.p21_express_graph.specs.SchemaContents.{schema_of}
use Rattle.p21_express_graph.specs.SettledOrder.{nexts_of}
use Rattle.p21_express_graph.proofs.orders.gather.Given as goal

abbrev pub invariant-loop-supertype : goal.invariant-loop-supertype
invariant-loop-supertype l =
    (l.gathered.count ≡ l.fn.gathered.count)
    × (add_firsts l.gathered.numbers (flat_map (nexts_of (lists_in l.orders)) (numbers (drop l.supertype-index l.supertypes)) ++ l.entity.0 ∷ [])
    ≡ add_firsts l.fn.gathered.numbers (flat_map (nexts_of (lists_in l.orders)) (numbers l.supertypes) ++ l.entity.0 ∷ []))
    × AreClosed (schema_of l.parts) l.gathered.numbers
