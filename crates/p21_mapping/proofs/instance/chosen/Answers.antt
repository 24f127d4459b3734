use Rattle.std.proofs.Common.{rules}
use Rattle.p21_express_graph.proofs.Lookups.{type-named}
use Rattle.p21_grammar_tree.specs.View.{key_view}
use Rattle.p21_mapping.proofs.Choosing.{unnamed-no_key, unoffered-no_key}
use Rattle.p21_mapping.proofs.instance.chosen.Goals as goal

pub returns-then-offers-clause-known : goal.returns-then-offers-clause-known
returns-then-offers-clause-known c = type-named c.args.schema.now _ _ c.in-Some.ensures

pub returns-else-offers-clause-decides : goal.returns-else-offers-clause-decides
returns-else-offers-clause-decides c = unoffered-no_key c.args.schema.now c.well_formed-2.ensures.types_distinct c.args.base.now
    c.in-Select.select _ (key_view c.args.key.now) c.in-Select.is (rw c.bytes.ensures at c.in-Some.ensures)
    (λ offers. let yes = c.offers.ensures.1 offers in search rules)

pub returns-in_default-type_named-clause-decides : goal.returns-in_default-type_named-clause-decides
returns-in_default-type_named-clause-decides c = unnamed-no_key c.args.schema.now c.args.base.now c.in-Select.select
    (key_view c.args.key.now) c.in-Select.is (rw c.bytes.ensures at c.in_default-type_named.ensures)
