use Rattle.std.proofs.Common.{◌≤◌, ap, arith, subst}
use Rattle.p21_tokens.specs.Held.{Held}
use Rattle.p21_tokens.specs.Reopening.{reopened}
use Rattle.p21_tokens.proofs.Reopening.{gives-reopened}
use Rattle.p21_tokens.proofs.lexer.Lexer.reopen.Goals as goal

pub returns-clause-history : goal.returns-clause-history
returns-clause-history c = λ _.
    gives-reopened c.args.self.now _ c.args.place (subst (λ (h : Held). c.args.place ≤ h.file_limit) c.self.view_is (omega arith))
    (rw (c.clear.ensures.items, c.new.ensures) (ap (λ (h : Held). reopened h c.args.place) c.self.view_is))
