use Rattle.std.proofs.Common.{ℕ, List, length, refl, sym, subst, ◌∙◌}
use Rattle.p21_stream_survey.proofs.Refusals.{refused-ended, refused-passed}
use Rattle.p21_stream_survey.specs.Breaking.{MayBePassed, MayNotBePassed}
use Rattle.p21_stream_survey.proofs.survey.Survey.break_off.Goals as goal

pub returns-then-may_be_passed-clause-goes : goal.returns-then-may_be_passed-clause-goes
returns-then-may_be_passed-clause-goes c =
    refused-passed c.args.self.now c.pass_refused.new.self c.args.fault c.deref-then-may_be_passed.result.now c.args.piece.now
    (length c.args.piece.now) c.pass_refused.result (c.deref-then-may_be_passed.ensures.value ∙ c.in-Ok.ensures) refl
    (subst (λ (l : List ℕ). MayBePassed c.args.self.now.log c.args.fault l)
    (c.deref.ensures.value ∙ sym c.deref-then-may_be_passed.ensures.value) (c.if-may_be_passed.ensures.yes refl))
    c.pass_refused.ensures.passes

pub returns-in-Ok-end_at-clause-goes : goal.returns-in-Ok-end_at-clause-goes
returns-in-Ok-end_at-clause-goes c =
    refused-ended c.log_laws.ensures.last c.log_laws.ensures.told c.args.self.now c.end_at.new.self c.args.fault c.in-Ok.bytes.items
    c.args.piece.now c.on.result c.in-Ok.ensures
    (subst (λ (l : List ℕ). MayNotBePassed c.args.self.now.log c.args.fault l) c.deref.ensures.value (c.if-may_be_passed.ensures.no refl))
    c.on.ensures.count c.on.ensures.again c.in-Ok-end_at.ensures
