use Rattle.p21_grammar_tree.specs.View.{record_view}
use Rattle.p21_mapping.proofs.Whole.{refused}
use Rattle.p21_mapping.proofs.check.check_owned_record.Goals as goal

pub returns : goal.returns
returns c = λ other. refused c.args.schema.now c.well_formed-2.ensures (record_view c.args.of) c.in-Err.fault c.in-Err.ensures other
