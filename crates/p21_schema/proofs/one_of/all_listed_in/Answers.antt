use Rattle.std.specs.Prelude.{List, ℕ}
use Rattle.std.proofs.Common.{arith, ap, subst}
use Rattle.p21_express_graph.specs.InvertedLists.{AreInverted}
use Rattle.p21_express_graph.specs.Orders.{number_lists}
use Rattle.p21_express_graph.specs.SettledOrder.{lists_of}
use Rattle.p21_express_graph.specs.SchemaContents.{entity, schema_of}
use Rattle.p21_express_graph.proofs.Gatherings.{mapped-length}
use Rattle.p21_schema.proofs.one_of.all_listed_in.Goals as goal
use Rattle.p21_schema.proofs.OneOfLists.{are-listed-in, listed-within}

pub inverted_lists-requires : goal.inverted_lists-requires
inverted_lists-requires c k e among =
    let below = listed-within (schema_of c.args.parts.now) c.requires k e (rw c.deref.ensures.value at among) in
    omega (arith, below, c.len.ensures, mapped-length entity c.args.parts.now.entities.items, c.args.parts.now.entities.ok.0)

pub returns : goal.returns
returns c = let P : List (List ℕ) → Type 0 = λ tables. AreInverted tables (lists_of c.in_ok-lists.lists.items) in
    are-listed-in (schema_of c.args.parts.now) (lists_of c.in_ok-lists.lists.items)
    (subst P (ap number_lists c.deref.ensures.value) c.in_ok-lists.ensures)
