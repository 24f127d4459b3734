use Rattle.std.proofs.Common.{ℕ, List, refl, subst}
use Rattle.p21_stream_log.specs.Broken.{BeginsIn}
use Rattle.p21_stream_survey.proofs.LastStage.{unread-behind-ends}
use Rattle.p21_stream_survey.proofs.survey.Survey.end_unread_behind.Goals as goal

pub returns-in-Ok-clause-ends : goal.returns-in-Ok-clause-ends
returns-in-Ok-clause-ends c =
    unread-behind-ends c.args.self.now (record c.args.self.now { listing = c.end_by.new.listing }) c.args.unlisted.now
    c.begins_in-begins.result c.in-Ok.extent (record { rules = refl; limits = refl; most = refl })
    (subst (λ (l : List ℕ). BeginsIn c.args.self.now.log l c.begins_in-begins.result) c.deref.ensures.value
    c.begins_in-begins.ensures.begins) c.in-Ok.ensures.ends c.in-Ok.ensures.extent c.in-Ok.ensures.listed
