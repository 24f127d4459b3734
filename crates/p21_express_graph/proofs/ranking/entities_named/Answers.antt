use Rattle.std.specs.Prelude.{[]}
use Rattle.p21_spec_schema.specs.Schema.{EntityNamed}
use Rattle.std.proofs.lemmas.List.Elements.{Contains-get_or}
use Rattle.p21_spec_basics.proofs.Members.{Contains-mapped}
use Rattle.p21_express_graph.specs.SchemaContents.{schema_of}
use Rattle.p21_express_graph.proofs.Pairs.{AllZip-more_second}
use Rattle.p21_express_graph.proofs.ranking.entities_named.Goals as goal

pub entity_named-requires-clause-among : goal.entity_named-requires-clause-among
entity_named-requires-clause-among c = c.requires.among _ (Contains-mapped (λ text. text.now) c.args.names.now _ (Contains-get_or c.args.names.now c.loop-name.name-index record { ref_ptr = (0, 0); now = [] } c.loop-name-test.true))

pub loop-name-preserved : goal.loop-name-preserved
loop-name-preserved c =
    AllZip-more_second (EntityNamed (schema_of c.args.parts.now)) (λ text. text.now) (λ e. e.0) c.args.names.now c.loop-name.name-index record { ref_ptr = (0, 0); now = [] } c.loop-name.entities.items c.push.new.self.items c.entity_named.result
    c.loop-name-test.true c.in_ok-push.ensures.items c.loop-name.invariant c.entity_named.ensures
