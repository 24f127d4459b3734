use Rattle.std.proofs.Common.{ap, subst, sym, ◌∙◌, ◌≤◌, ℕ, refl, Ok, Option, None, Some}
use Rattle.p21_tokens.specs.Held.{Held, IsWithin, pending_of}
use Rattle.p21_tokens.specs.Histories.{TakesNoMore}
use Rattle.p21_tokens.specs.Steps.{Scans}
use Rattle.p21_tokens.specs.declared.token.Token.{Token}
use Rattle.p21_tokens.proofs.Extending.{next-answers, next-refuses, next-takes_no_more}
use Rattle.p21_tokens.proofs.Finishing.{next-refused, refused-none, no-memory-asked, fault-of-err}
use Rattle.p21_tokens.proofs.Reopening.{rests-behind}
use Rattle.p21_tokens.proofs.lexer.Lexer.next.Goals as goal

pub returns-in-Some-clause-history : goal.returns-in-Some-clause-history
returns-in-Some-clause-history c = next-refused c.args.self.now c.args.self.now c.args.piece.now c.in-Some.fault (ap (λ (h : Held). h.refused) (sym c.self.view_is) ∙ c.in-Some.is)

pub returns-in-Some-clause-no_memory : goal.returns-in-Some-clause-no_memory
returns-in-Some-clause-no_memory c history stands alive _ _ _ =
    refused-none c.args.self.now history c.in-Some.fault (ap (λ (h : Held). h.refused) (sym c.self.view_is) ∙ c.in-Some.is) stands alive

pub returns-in-Ok-clause-history : goal.returns-in-Ok-clause-history
returns-in-Ok-clause-history c =
    next-answers c.args.self.now c.scan.new.self c.args.piece.now c.in-Ok.answer (ap (λ (h : Held). h.refused) (sym c.self.view_is) ∙ c.in_default.is)
    (subst (λ (h : Held). pending_of h ≤ h.statement_limit) c.self-2.view_is c.self-2.invariant.0)
    (subst (λ (h : Held). h.file ≤ h.file_limit) c.self-2.view_is c.self-2.invariant.1) (c.in-Ok.ensures {u = tt})

pub returns-in-Err-clause-history : goal.returns-in-Err-clause-history
returns-in-Err-clause-history c =
    let within : IsWithin c.scan.new.self = record {
      statement = subst (λ (h : Held). pending_of h ≤ h.statement_limit) c.self-2.view_is c.self-2.invariant.0;
      file = subst (λ (h : Held). h.file ≤ h.file_limit) c.self-2.view_is c.self-2.invariant.1;
    } in
    next-refuses c.args.self.now c.scan.new.self _ c.args.piece.now c.in-Err.fault (ap (λ (h : Held). h.refused) (sym c.self.view_is) ∙ c.in_default.is) refl (record { pending = ap pending_of c.self-2.view_is; file = ap (λ (h : Held). h.file) c.self-2.view_is }) within (c.in-Err.ensures {u = tt})

pub returns-in-Err-clause-no_memory : goal.returns-in-Err-clause-no_memory
returns-in-Err-clause-no_memory c history stands alive nothing separators e =
    no-memory-asked c.args.self.now c.scan.new.self history c.args.piece.now c.in-Err.fault stands (ap (λ (h : Held). h.refused) (sym c.self.view_is) ∙ c.in_default.is) nothing separators (c.in-Err.ensures {u = tt}) (fault-of-err _ _ e)

pub returns-in-Ok-clause-at_once : goal.returns-in-Ok-clause-at_once
returns-in-Ok-clause-at_once c = by_answer c.in-Ok.answer (c.in-Ok.ensures {u = tt})
  where
    by_answer : (answer : ℕ × Option Token) → Scans c.args.self.now c.args.piece.now (Ok answer) c.scan.new.self → TakesNoMore c.args.self.now c.args.piece.now (Ok answer)
    by_answer (count, None) s = tt
    by_answer (count, Some token) s = next-takes_no_more c.args.self.now c.scan.new.self c.args.piece.now count token (ap (λ (h : Held). h.refused) (sym c.self.view_is) ∙ c.in_default.is) s

pub returns-in-Ok-clause-rests : goal.returns-in-Ok-clause-rests
returns-in-Ok-clause-rests c = rests-behind c.args.self.now c.scan.new.self c.args.piece.now c.in-Ok.answer (ap (λ (h : Held). h.refused) (sym c.self.view_is) ∙ c.in_default.is) (c.in-Ok.ensures {u = tt})
