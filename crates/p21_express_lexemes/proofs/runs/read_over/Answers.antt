use Rattle.p21_express_lexemes.specs.Runs.{marks}
use Rattle.p21_express_lexemes.proofs.Running.{has_one_run, has_no_run}
use Rattle.p21_express_lexemes.proofs.runs.read_over.Goals as goal

pub returns-then-run_over-clause-reads : goal.returns-then-run_over-clause-reads
returns-then-run_over-clause-reads c =
    has_one_run (marks c.args.opens) (marks c.args.closes) c.requires c.args.lexemes.now c.run_over.new.lexemes c.if-run_over.ensures

pub returns-else-run_over-clause-reads : goal.returns-else-run_over-clause-reads
returns-else-run_over-clause-reads c = λ no_memory other h.
    has_no_run (marks c.args.opens) (marks c.args.closes) c.requires c.args.lexemes.now c.run_over.new.lexemes c.if-run_over.ensures other h
