use Rattle.std.proofs.Common.{◌++◌, List, ℕ, ap, sym, ◌∙◌}
use Rattle.p21_express_graph.specs.Orders.{numbers}
use Rattle.p21_model.proofs.EntitySets.{only-found, part-left}
use Rattle.p21_model.proofs.RowsLeft.{opened}
use Rattle.p21_model.proofs.entities.Entities.of_part.Goals as goal

pub returns-in_default-clause-some : goal.returns-in_default-clause-some
returns-in_default-clause-some c part parts end entities left are =
    let o = opened c.args.schema.now part parts end c.args.bytes.now are.0 left are.2 in
    c.in_default.ensures.some o.word o.rest are.0 o.keyword o.named o.bytes_are

pub returns-clause-some : goal.returns-clause-some
returns-clause-some c part parts end entities left are =
    let s = c.args.schema.now in
    let o = opened s part parts end c.args.bytes.now are.0 left are.2 in
    let found = c.in-Some.ensures.some o.word o.rest are.0 o.keyword o.named o.bytes_are in
    let own = only-found s (numbers c.order_of.result.now) (numbers c.alone.result.now) c.in-Some.entity.0 are.0 c.order_of.ensures
    c.alone.ensures.found found.0 in
    part-left s part parts end c.args.bytes.now c.in-Some.rest.now (numbers c.alone.result.now) are.1 entities are.0 o are.3 found.1
    (are.4 ∙ ap (λ (xs : List ℕ). xs ++ are.1) (sym own))
