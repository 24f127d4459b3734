use Rattle.std.proofs.Common.{[], refl, sym, append-nil}
use Rattle.p21_express_graph.specs.Orders.{numbers}
use Rattle.p21_spec_schema.specs.Order.{places}
use Rattle.p21_model.proofs.RowsLeft.{opened, order-found, part-rows}
use Rattle.p21_model.proofs.attributes.Attributes.of_whole.Goals as goal

pub returns-in_default-clause-told : goal.returns-in_default-clause-told
returns-in_default-clause-told c part end rows left own =
    let o = opened c.args.schema.now part [] end c.args.bytes.now own.entity left own.named in
    c.in_default.ensures.some o.word o.rest own.entity o.keyword o.named o.bytes_are

pub returns-clause-told : goal.returns-clause-told
returns-clause-told c part end rows left own =
    let s = c.args.schema.now in
    let o = opened s part [] end c.args.bytes.now own.entity left own.named in
    let found = c.in-Some.ensures.some o.word o.rest own.entity o.keyword o.named o.bytes_are in
    part-rows s part [] end c.args.bytes.now c.in-Some.rest.now (places s) rows [] rows own o refl (sym (append-nil rows)) _
    (order-found s (numbers c.order_of.result.now) c.in-Some.entity.0 own.entity c.order_of.ensures found.0) found.1
