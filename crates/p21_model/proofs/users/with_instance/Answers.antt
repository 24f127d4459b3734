use Rattle.p21_model.proofs.UsesFound.{all-added, none-added, one-added}
use Rattle.p21_model.proofs.users.with_instance.Goals as goal

pub loop-attribute-init : goal.loop-attribute-init
loop-attribute-init c record_ stated found are = none-added c.args.user c.args.rows.items c.attributes-attributes.result found
    (c.attributes-attributes.ensures.any record_ stated found are)

pub loop-attribute-preserved : goal.loop-attribute-preserved
loop-attribute-preserved c record_ stated found are =
    one-added c.args.user c.args.rows.items c.loop-attribute.more.items c.in_ok-more.more.items c.loop-attribute.attributes c.next.new.self
    found c.in-Some.attribute (c.loop-attribute.invariant record_ stated found are)
    c.in-Some.ensures.handed c.in_ok-more.ensures

pub returns : goal.returns
returns c record_ stated found are =
    all-added c.args.user c.args.rows.items c.loop-attribute.more.items c.loop-attribute.attributes c.next.new.self found
    (c.loop-attribute.invariant record_ stated found are) c.in_default.ensures.handed
