use Rattle.std.proofs.Common.{◌∙◌, ℕ, ap, length}
use Rattle.p21_commands.specs.Check.{check_answer_line}
use Rattle.p21_commands.proofs.Surveys.{accepted-under, listed-read, text-listed}
use Rattle.p21_commands.proofs.check_all.find_answer.Goals as goal

pub returns-in_ok-line-in-Accepted-clause-ok : goal.returns-in_ok-line-in-Accepted-clause-ok
returns-in_ok-line-in-Accepted-clause-ok g c = λ reader declares. record {
  output = c.in-Accepted.accepted;
  accepted = accepted-under reader _ _ c.args.schema.now c.usual.result c.in-Ok.found c.in-Accepted.accepted declares c.usual.ensures
      c.in-Accepted.is c.in-Ok.ensures.surveys;
  line_is = c.in_ok-line-in-Accepted.ensures ∙ ap (λ (n : ℕ). check_answer_line n c.len.result) c.count.ensures
      ∙ ap (λ (m : ℕ). check_answer_line (length c.in-Accepted.accepted.kept) m) c.len.ensures;
}

pub returns-in_ok-said-in-Refused-clause-ok : goal.returns-in_ok-said-in-Refused-clause-ok
returns-in_ok-said-in-Refused-clause-ok g c = λ reader declares.
    text-listed c.args.schema.now c.usual.result _ _ c.in-Ok.found c.in-Refused.refusals c.in-Refused.is c.in-Ok.ensures.surveys
    c.args.most reader _ _ declares c.usual.ensures c.in-Ok.ensures.counted c.in_ok-said-in-Refused.ensures.0
    c.in_ok-said-in-Refused.ensures.1

pub returns-in_ok-said-in-Refused-clause-read : goal.returns-in_ok-said-in-Refused-clause-read
returns-in_ok-said-in-Refused-clause-read g c =
    listed-read c.args.schema.now c.usual.result _ _ c.in-Ok.found c.in-Refused.refusals c.in-Refused.is c.in-Ok.ensures.surveys _ _
    c.in_ok-said-in-Refused.ensures.1 c.in-Ok.ensures.failed c.in-Ok.ensures.ends_by_read
