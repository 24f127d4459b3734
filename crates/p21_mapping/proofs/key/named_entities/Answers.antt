use Rattle.std.proofs.Common.{subst}
use Rattle.p21_spec_exchange.specs.Record.{Part}
use Rattle.p21_spec_file.specs.BrokenRule.{unknown_entity}
use Rattle.p21_spec_file.specs.Meaning.{NamesEntity}
use Rattle.p21_grammar_tree.specs.declared.record.Part as tree
use Rattle.p21_grammar_tree.specs.View.{part_view}
use Rattle.p21_express_graph.proofs.Pairs.{AllZip-more}
use Rattle.p21_mapping.proofs.GrownLists.{numbered-is}
use Rattle.p21_mapping.proofs.key.named_entities.Goals as goal

pub returns-in-None : goal.returns-in-None
returns-in-None c = λ _. unknown_entity (
  part_view c.part-item.result,
  numbered-is part_view c.args.parts.now c.loop-part.part-index
      c.part-item.result c.loop-part-test.true c.part-item.is,
  λ e named. c.in-None.ensures e named,
)

pub loop-part-preserved : goal.loop-part-preserved
loop-part-preserved c =
    let P : tree.Part → Type 0 = λ part. NamesEntity c.args.schema.now (part_view part).key c.in-Some.entity.0 in
    AllZip-more (λ (part : Part) e. NamesEntity c.args.schema.now part.key e) part_view (λ e. e.0) c.args.parts.now c.loop-part.part-index
    c.part-item.result c.loop-part.listed.items c.push.new.self.items c.in-Some.entity
    c.loop-part-test.true c.in_ok-push-in-Some.ensures.items c.loop-part.invariant (subst P c.part-item.is c.in-Some.ensures)
