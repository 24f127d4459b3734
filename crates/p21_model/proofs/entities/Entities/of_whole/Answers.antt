use Rattle.std.proofs.Common.{[], refl, ap, sym, ◌∙◌, append-nil}
use Rattle.p21_express_graph.specs.Orders.{numbers}
use Rattle.p21_spec_schema.specs.Order.{order}
use Rattle.p21_model.proofs.EntitySets.{part-left}
use Rattle.p21_model.proofs.RowsLeft.{opened}
use Rattle.p21_model.proofs.entities.Entities.of_whole.Goals as goal

pub returns-in_default-clause-told : goal.returns-in_default-clause-told
returns-in_default-clause-told c part end e left named =
    let o = opened c.args.schema.now part [] end c.args.bytes.now e left named in
    c.in_default.ensures.some o.word o.rest e o.keyword o.named o.bytes_are

pub returns-clause-told : goal.returns-clause-told
returns-clause-told c part end e left named =
    let s = c.args.schema.now in
    let o = opened s part [] end c.args.bytes.now e left named in
    let found = c.in-Some.ensures.some o.word o.rest e o.keyword o.named o.bytes_are in
    part-left s part [] end c.args.bytes.now c.in-Some.rest.now (numbers c.order_of.result.now) [] (order s e) e o refl found.1
    (sym (append-nil (numbers c.order_of.result.now) ∙ c.order_of.ensures ∙ ap (order s) found.0))
