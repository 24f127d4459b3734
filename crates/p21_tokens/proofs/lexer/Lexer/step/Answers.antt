use Rattle.std.proofs.Common.{ap, sym, ◌∙◌}
use Rattle.p21_tokens.specs.Held.{Held}
use Rattle.p21_tokens.proofs.Stepping.{handed-ended_token, refused-ended_token}
use Rattle.p21_tokens_automaton.specs.Step.{advance}
use Rattle.p21_tokens.proofs.lexer.Lexer.step.Goals as goal

pub returns-in-Ok : goal.returns-in-Ok
returns-in-Ok c = handed-ended_token _ _ _ _ (ap (λ (h : Held). advance h.mode c.args.byte) (sym c.self.view_is) ∙ (sym c.advance-action.ensures ∙ c.in-End.is)) (c.in-Ok.ensures {u = tt})

pub returns-in-Err : goal.returns-in-Err
returns-in-Err c = refused-ended_token _ _ _ _ (ap (λ (h : Held). advance h.mode c.args.byte) (sym c.self.view_is) ∙ (sym c.advance-action.ensures ∙ c.in-End.is)) (c.in-Err.ensures {u = tt})
