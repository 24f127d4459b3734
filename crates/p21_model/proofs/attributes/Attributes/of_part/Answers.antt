use Rattle.p21_express_graph.specs.Orders.{numbers}
use Rattle.p21_spec_schema.specs.Order.{own_places}
use Rattle.p21_model.proofs.RowsLeft.{alone-found, opened, part-rows}
use Rattle.p21_model.proofs.attributes.Attributes.of_part.Goals as goal

pub returns-in_default-clause-some : goal.returns-in_default-clause-some
returns-in_default-clause-some c part parts end rows left are =
    let own = are.2 in
    let o = opened c.args.schema.now part parts end c.args.bytes.now own.entity left own.named in
    c.in_default.ensures.some o.word o.rest own.entity o.keyword o.named o.bytes_are

pub returns-clause-some : goal.returns-clause-some
returns-clause-some c part parts end rows left are =
    let s = c.args.schema.now in
    let own = are.2 in
    let o = opened s part parts end c.args.bytes.now own.entity left own.named in
    let found = c.in-Some.ensures.some o.word o.rest own.entity o.keyword o.named o.bytes_are in
    part-rows s part parts end c.args.bytes.now c.in-Some.rest.now (own_places s) are.0 are.1 rows own o are.3 are.4 _
    (alone-found s (numbers c.order_of.result.now) (numbers c.alone.result.now) c.in-Some.entity.0 own.entity c.order_of.ensures
    c.alone.ensures.found found.0)
    found.1
