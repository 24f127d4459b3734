use Rattle.std.proofs.Common.{◌+◌, ◌≤◌, refl, ap, subst, arith}
use Rattle.p21_tokens.specs.Held.{Held}
use Rattle.p21_tokens.proofs.Passing.{gives-passed}
use Rattle.p21_tokens.proofs.lexer.Lexer.pass_over.Goals as goal

pub returns-clause-history : goal.returns-clause-history
returns-clause-history c = λ _.
    gives-passed c.args.self.now _ c.args.count (c.if-not-is_resting.ensures.value.0 refl) (subst (λ (h : Held). h.file ≤ h.file_limit) c.self.view_is c.self.invariant.1) (omega arith)
    (ap (λ (h : Held). record h { file = h.file + c.args.count }) c.self.view_is)
