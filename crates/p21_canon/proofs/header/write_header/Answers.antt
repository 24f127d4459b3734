use Rattle.p21_mapping_values.proofs.WrittenParams.{on_more}
use Rattle.p21_spec_laws.proofs.CanonicalLaid.{statement_laid}
use Rattle.p21_spec_exchange.specs.Statement.{header}
use Rattle.p21_grammar_tree.specs.View.{part_view}
use Rattle.p21_canon.proofs.header.write_header.Goals as goal

pub returns-else-is_err-clause-laid : goal.returns-else-is_err-clause-laid
returns-else-is_err-clause-laid c = on_more _ _ _ (statement_laid (header (part_view c.args.part.now)))
    c.append_statement-written.ensures.written
