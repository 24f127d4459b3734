use Rattle.p21_canon.proofs.Statements.{only-appended}
use Rattle.p21_mapping_values.proofs.WrittenParams.{on_more}
use Rattle.p21_mapping_values.specs.TypedView.{typed_view}
use Rattle.p21_canon.proofs.statement.write_record.Goals as goal

pub returns-else-is_err-clause-only : goal.returns-else-is_err-clause-only
returns-else-is_err-clause-only c = on_more _ _ _ (only-appended c.args.schema.now c.well_formed-2.ensures c.args.name
    (typed_view c.args.typed.now) c.requires c.args.out.now.items c.append_statement-written.new.out.items)
    c.append_statement-written.ensures.ok
