use Rattle.std.proofs.Common.{Option, subst, sym}
use Rattle.std.proofs.lemmas.Result.{IfOk-weaker}
use Rattle.p21_stream_survey.proofs.LastStage.{ended-of_file, reading-finds, reading-of_file, reading-stands}
use Rattle.p21_stream_survey.specs.Finishing.{FindsAtEnd}
use Rattle.p21_stream_survey.specs.ReadOut.{FindsIn, SomeIsReadOut, last_stage}
use Rattle.p21_stream_survey.specs.declared.listed.Extent.{Extent}
use Rattle.p21_stream_survey.specs.declared.listed.Found.{Found}
use Rattle.p21_stream_survey.proofs.survey.Survey.find.Goals as goal
use Rattle.p21_stream_survey.specs.Keeping.{rules_by, kept_by}

pub finish_file-requires-clause-stands : goal.finish_file-requires-clause-stands
finish_file-requires-clause-stands c = reading-stands c.args.self
    (subst (λ (e : Option Extent). SomeIsReadOut c.args.self (last_stage e)) c.in-None.is c.requires)

pub returns-clause-finds : goal.returns-clause-finds
returns-clause-finds c =
    IfOk-weaker c.finish_file.result (λ (found : Found). FindsAtEnd (rules_by c.args.self) c.args.self.limits c.args.self.log
    (kept_by c.args.self) c.args.self.listing found) (λ (found : Found). FindsIn c.args.self (last_stage c.args.extent) found)
    (λ found finds. subst (λ (e : Option Extent). FindsIn c.args.self (last_stage e) found) (sym c.in-None.is)
    (reading-finds c.args.self found finds)) c.finish_file.ensures.finds

pub returns-in-Some-clause-of_file : goal.returns-in-Some-clause-of_file
returns-in-Some-clause-of_file c =
    ended-of_file c.args.self c.in-Some.extent c.found.result
    (subst (λ (e : Option Extent). SomeIsReadOut c.args.self (last_stage e)) c.in-Some.is c.requires)
    c.found.ensures

pub returns-clause-of_file : goal.returns-clause-of_file
returns-clause-of_file c =
    c.finish_file.ensures.of_file (reading-of_file c.args.self
    (subst (λ (e : Option Extent). SomeIsReadOut c.args.self (last_stage e)) c.in-None.is c.requires))
