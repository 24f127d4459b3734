use Rattle.std.specs.Prelude.{[], ◌∷◌, ◌++◌, drop, ◌+◌, map}
use Rattle.std.specs.Arc.{arc_value}
use Rattle.p21_express_graph.specs.Meaning.{type_use}
use Rattle.p21_express_graph.specs.SchemaContents.{attribute}
use Rattle.p21_express_outline.specs.Attributes.{own_with}
use Rattle.p21_express_outline.proofs.Adding.{adding-more, own_with-at}
use Rattle.p21_express_outline.proofs.attributes.add_sharing.Goals as goal

pub loop-name-preserved : goal.loop-name-preserved
loop-name-preserved c =
    let own = own_with c.args.optional (type_use (arc_value c.args.type_use.now)) in
    let k = c.loop-name.name-index in
    let item = c.name-item.result in
    adding-more (map attribute c.loop-name.out.items) (own (drop k c.args.names.now))
    (map attribute c.args.out.now.items ++ own c.args.names.now) (own (item ∷ [])) (map attribute c.add_attribute.new.out.items)
    (own (drop (k + 1) c.args.names.now)) c.loop-name.invariant
    (own_with-at c.args.optional (type_use (arc_value c.args.type_use.now)) c.args.names.now k item c.loop-name-test.true c.name-item.is)
    c.in_ok-add_attribute.ensures
