use Rattle.std.proofs.Common.{ℕ, List, subst, sym}
use Rattle.p21_canon.specs.Statement.{AppendsStatement}
use Rattle.p21_grammar_tree.specs.View.{record_view}
use Rattle.p21_mapping.specs.Checked.{needs_view}
use Rattle.p21_mapping_values.specs.TypedView.{typed_view}
use Rattle.p21_stream_statements.proofs.Sources.{check-of_statement}
use Rattle.p21_stream_statements.specs.Source.{IsOfStatement}
use Rattle.p21_stream_kept.proofs.Finding.{found}
use Rattle.p21_stream_kept.proofs.found.find_instance.Goals as goal

pub returns-in-Err-clause-kind : goal.returns-in-Err-clause-kind
returns-in-Err-clause-kind c = subst IsOfStatement (sym c.from.ensures) (check-of_statement c.in-Err.fault)

pub returns-clause-finds : goal.returns-clause-finds
returns-clause-finds c =
    let P : List ℕ → Type 0 = λ old. AppendsStatement c.args.schema.now c.args.name (typed_view c.in-Ok.checked.0) old
    c.write_record.new.out.items in
    found c.args.schema.now c.args.name (record_view c.args.of) (typed_view c.in-Ok.checked.0) (needs_view c.in-Ok.checked.1.items)
    c.in-Ok.ensures c.write_record.new.out.items (subst P c.clear.ensures.items c.in-Ok-write_record.ensures.ok)
