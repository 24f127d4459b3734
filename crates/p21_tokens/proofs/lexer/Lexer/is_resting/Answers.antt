use Rattle.std.proofs.Common.{subst}
use Rattle.p21_tokens.specs.Passing.{IsResting}
use Rattle.p21_tokens.proofs.Passing.{rests, resting-history}
use Rattle.p21_tokens.proofs.lexer.Lexer.is_resting.Goals as goal

pub returns-then-self-eq0-clause-rests : goal.returns-then-self-eq0-clause-rests
returns-then-self-eq0-clause-rests c = λ none history stands.
    resting-history c.args.self.now history (subst IsResting c.self.view_is (rests _ c.if-is_some.ensures c.in-Between.is c.if-self-eq0.true none c.self.invariant.2)) stands
