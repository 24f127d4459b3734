use Rattle.std.proofs.Common.{ℕ, List, Some, ap, subst}
use denote.Ref.{Bor}
use Rattle.p21_c.specs.Contents.{list_in}
use Rattle.p21_c.specs.declared.contents.Content.{Content}
use Rattle.p21_c.proofs.Telling.{list-made}
use Rattle.p21_stream.specs.Survey.{SurveysInput}
use Rattle.p21_c.proofs.lists.survey_under.Goals as goal

pub returns-in-Some : goal.returns-in-Some
returns-in-Some c =
    list-made c.args.schema.now c.usual.result c.usual.ensures c.args.file.now c.args.most c.answer_of-answer.result
    (Some c.in-Some.content.value) c.in-Ok.list (Some c.survey_located.new.reader.inner.now)
    (subst (λ (read : Bor (List ℕ)). SurveysInput c.args.schema.now c.usual.result (Some read.now)
    (Some c.survey_located.new.reader.inner.now) c.in-Ok.list.found) c.new-reader.ensures.inner c.in-Ok.ensures.surveys)
    c.in-Ok.ensures.counted
    (ap (λ (held : Content). list_in (Some held)) c.in-Some.ensures) c.answer_of-answer.ensures
