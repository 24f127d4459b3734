use Rattle.std.specs.Prelude.{◌≡◌, List, Some, Vec, slice_get, Contains, length}
use Rattle.std.proofs.Common.{arith, ap, subst}
use Rattle.std.specs.declared.alloc.Global.{Global}
use Rattle.p21_express_graph.specs.declared.above.Above.{Above}
use Rattle.p21_express_graph.specs.declared.number.EntityId.{EntityId}
use Rattle.p21_express_graph.specs.Indexes.{AreIndexes}
use Rattle.p21_express_graph.specs.Orders.{number_lists, numbers}
use Rattle.p21_express_graph.specs.SchemaContents.{entity}
use Rattle.p21_express_graph.specs.SettledOrder.{nexts_of}
use Rattle.p21_express_graph.proofs.Gatherings.{mapped-length}
use Rattle.p21_schema.proofs.hierarchy.entity_tables.Goals as goal

pub indexes_of-requires-clause-below : goal.indexes_of-requires-clause-below
indexes_of-requires-clause-below c r e among =
    let P : List (Vec EntityId Global) → Type 0 = λ runs. Contains (nexts_of (number_lists runs) r) e in
    let below = c.in_ok-orders.ensures.below r e (subst P c.deref.ensures.value among) in
    omega (arith, below, c.len.ensures, mapped-length entity c.args.parts.now.entities.items, c.args.parts.now.entities.ok.0)

pub indexes_of-requires-clause-within : goal.indexes_of-requires-clause-within
indexes_of-requires-clause-within c k above at =
    let P : List Above → Type 0 = λ all. slice_get all k ≡ Some above in
    let has = c.in_ok-above.ensures.each k above (subst P c.deref-2.ensures.value at) in
    omega (arith, has.within.0, mapped-length (λ x. numbers x.items) c.in_ok-orders.orders.runs.items, ap length c.deref.ensures.value)

pub returns : goal.returns
returns c =
    let P : List (Vec EntityId Global) → Type 0 = λ runs. AreIndexes (number_lists runs) c.deref-2.result.now
    c.in_ok-indexes.indexes.items in
    let Q : List Above → Type 0 = λ all. AreIndexes (number_lists c.in_ok-orders.orders.runs.items) all c.in_ok-indexes.indexes.items in
    record {
      prefixes_are = c.in_ok-orders.ensures.prefixes;
      orders_are = c.in_ok-orders.ensures.orders;
      above_are = c.in_ok-above.ensures;
      indexes_are = subst Q c.deref-2.ensures.value (subst P c.deref.ensures.value c.in_ok-indexes.ensures);
      listed_are = c.in_ok-listed_in.ensures;
    }
