use Rattle.p21_express_graph.specs.Meaning.{place as place_of}
use Rattle.p21_model.proofs.UseNames.{all-named, none-named, one-named}
use Rattle.p21_model.proofs.users.with_attribute.Goals as goal

pub loop-name-init : goal.loop-name-init
loop-name-init c p text = none-named c.args.user (place_of c.args.attribute.now.place) p c.args.rows.items
    c.references-references.result.rest.now (c.references-references.ensures p text)

pub loop-name-preserved : goal.loop-name-preserved
loop-name-preserved c p text =
    one-named c.args.user (place_of c.args.attribute.now.place) p c.args.rows.items c.loop-name.more.items c.push.new.self.items
    c.loop-name.references.rest.now c.next.new.self.rest.now c.in-Some.name c.number_of.result c.number_of.ensures
    (c.loop-name.invariant p text) c.in-Some.ensures.handed c.in_ok-push.ensures.items

pub returns : goal.returns
returns c p text =
    all-named c.args.user (place_of c.args.attribute.now.place) p c.args.rows.items c.loop-name.more.items c.loop-name.references.rest.now
    c.next.new.self.rest.now (c.loop-name.invariant p text) c.in_default.ensures.handed
