use Rattle.std.proofs.Common.{ap, subst, sym, ◌∙◌}
use Rattle.p21_tokens.specs.Steps.{is_token_byte, RefusesByte}
use Rattle.p21_tokens.specs.declared.fault.TokenFault.{TokenFault}
use Rattle.p21_tokens.proofs.Stepping.{took-pass, took-skip, took-keep, took-put, gave-one, gave-closed_token, refused-closed_token, refused-byte, same-counts_itself, same-limits_itself}
use Rattle.p21_tokens.proofs.lexer.Lexer.take.Goals as goal

pub returns-in-Pass : goal.returns-in-Pass
returns-in-Pass c = took-pass _ _ _ _ (sym c.requires.action ∙ c.in-Pass.is) c.pass.ensures

pub returns-in-Skip : goal.returns-in-Skip
returns-in-Skip c = took-skip _ _ _ _ (sym c.requires.action ∙ c.in-Skip.is) c.skip.ensures

pub returns-in-Ok : goal.returns-in-Ok
returns-in-Ok c = took-keep _ _ _ _ (sym c.requires.action ∙ c.in-Keep.is) c.in-Ok.ensures.ok

pub returns-in-Ok-put : goal.returns-in-Ok-put
returns-in-Ok-put c = took-put _ _ _ _ _ (sym c.requires.action ∙ c.in-Put.is) c.in-Ok-put.ensures.ok

pub returns-in-Give : goal.returns-in-Give
returns-in-Give c =
    gave-one _ _ _ _ _ (sym c.requires.action ∙ c.in-Give.is) (c.requires.statement (ap (is_token_byte c.args.self.now.mode) c.in-Give.is)) c.give.ensures.token c.give.ensures.held

pub returns-in-Ok-close : goal.returns-in-Ok-close
returns-in-Ok-close c = gave-closed_token _ _ _ _ (sym c.requires.action ∙ c.in-Close.is) (c.requires.statement (ap (is_token_byte c.args.self.now.mode) c.in-Close.is)) (c.in-Ok-close.ensures {u = tt})

pub returns-in-Err-close : goal.returns-in-Err-close
returns-in-Err-close c =
    refused-closed_token _ _ _ _ (sym c.requires.action ∙ c.in-Close.is) (λ _. (c.requires.file, λ q. c.requires.statement (ap (is_token_byte c.args.self.now.mode) c.requires.action ∙ q)))
    (c.in-Err-close.ensures {u = tt})

pub returns-in-Refuse : goal.returns-in-Refuse
returns-in-Refuse c = (
  same-limits_itself c.args.self.now,
  subst (λ (x : TokenFault). RefusesByte c.args.self.now c.args.byte x) (sym c.fault_of.ensures) (refused-byte c.args.self.now c.args.byte c.in-Refuse.wrong (sym c.requires.action ∙ c.in-Refuse.is)
      (λ _. (c.requires.file, λ q. c.requires.statement (ap (is_token_byte c.args.self.now.mode) c.requires.action ∙ q)))),
  same-counts_itself c.args.self.now,
)
