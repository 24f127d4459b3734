use Rattle.std.proofs.Common.{◌≡◌, ◌↔◌, ℕ, IsTrue, List, Some, refl, subst, ◌∙◌}
use Rattle.p21_stream_output.specs.Output.{output_text}
use Rattle.p21_c.proofs.Answering.{compared, first-refused, second-refused}
use Rattle.p21_c.proofs.files.compare_under.Goals as goal

pub returns-in-Err : goal.returns-in-Err
returns-in-Err c = first-refused (Some c.args.schema.now) c.args.schema.now c.args.schema.now refl refl c.refused-answer.result
    c.args.first.now c.args.second.now c.in-Err.located.refusal c.in-Err.ensures.err c.refused-answer.ensures

pub returns-in-Ok-accept_text : goal.returns-in-Ok-accept_text
returns-in-Ok-accept_text c =
    compared (Some c.args.schema.now) c.args.schema.now c.args.schema.now refl refl c.done.result c.args.first.now c.args.second.now
    c.in-Ok.accepted c.in-Ok-accept_text.accepted c.is_text-same.result c.claim_under.ensures c.in-Ok.ensures.ok
    c.in-Ok-accept_text.ensures.ok
    (subst (λ (t : List ℕ). IsTrue c.is_text-same.result ↔ (t ≡ output_text c.in-Ok-accept_text.accepted))
    (c.deref.ensures.value ∙ c.in-Some.ensures) c.is_text-same.ensures) c.done.ensures

pub returns : goal.returns
returns c =
    second-refused (Some c.args.schema.now) c.args.schema.now c.args.schema.now refl refl c.refused-answer-in-Err-accept_text.result
    c.args.first.now c.args.second.now c.in-Ok.accepted c.in-Err-accept_text.located.refusal c.in-Ok.ensures.ok
    c.in-Err-accept_text.ensures.err c.refused-answer-in-Err-accept_text.ensures
