use Rattle.std.proofs.Common.{ℕ, List, refl, subst}
use Rattle.p21_stream_log.specs.Broken.{BeginsIn}
use Rattle.p21_stream_log.specs.Opening.{IsBegun}
use Rattle.p21_stream_survey.proofs.Ends.{told-ends}
use Rattle.p21_stream_survey.proofs.survey.Survey.end_at.Goals as goal

pub returns : goal.returns
returns c =
    told-ends c.args.self.now c.end_with.new.self c.args.fault c.args.bytes.items c.begins_in.result c.end_with.result
    (subst (λ (l : List ℕ). BeginsIn c.args.self.now.log l c.begins_in.result) c.deref-2.ensures.value c.begins_in.ensures.begins)
    (subst IsBegun c.deref.ensures.value (c.if-not-has_begun.ensures refl)) c.end_with.ensures
