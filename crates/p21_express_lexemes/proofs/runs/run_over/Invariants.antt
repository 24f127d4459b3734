use Rattle.std.proofs.Common.{◌+◌, ◌≤◌, length}
use Rattle.p21_express_lexemes.specs.Runs.{marks}
use Rattle.p21_express_lexemes.proofs.RunSteps.{RunLeads}
use Rattle.p21_express_lexemes.proofs.runs.run_over.Given as goal

-- each open one took a lexeme
abbrev pub invariant-loop-depth : goal.invariant-loop-depth
invariant-loop-depth l = record {
  leads : RunLeads (marks l.opens) (marks l.closes) l.fn.lexemes l.depth l.lexemes;
  few : l.depth + length l.lexemes ≤ l.most + 1;
}

abbrev pub decreases-loop-depth : goal.decreases-loop-depth
decreases-loop-depth l = length l.lexemes
