use Rattle.std.proofs.Common.{Bool, IsTrue, false, true, ◌≡◌, ◌∙◌, subst, sym}
use Rattle.std.proofs.lemmas.Result.{IfOk-weaker}
use Rattle.p21_stream_survey.proofs.LastStage.{finds-behind, interrupted-counts, interrupted-finds, interrupted-kinds, is-interrupted}
use Rattle.p21_stream_survey.specs.Kinds.{AreOfFile, AreOfReading}
use Rattle.p21_stream_survey.specs.ReadOut.{FindsAll, FindsIn, IsInterrupted, last_stage}
use Rattle.p21_stream_survey.specs.declared.listed.Found.{Found}
use Rattle.p21_stream_survey.proofs.survey.Survey.finish.Goals as goal

pub returns-in-Ok-clause-finds : goal.returns-in-Ok-clause-finds
returns-in-Ok-clause-finds c = interrupted-finds c.args.self c.interrupt.new.self c.in-Ok.extent c.found_with.result c.in-Ok.ensures.ends
    c.found_with.ensures

pub returns-in-Ok-clause-counted : goal.returns-in-Ok-clause-counted
returns-in-Ok-clause-counted c =
    interrupted-counts c.args.self c.interrupt.new.self c.in-Ok.extent c.found_with.result c.requires c.in-Ok.ensures.ends
    c.found_with.ensures

pub returns-in-Ok-clause-interrupted : goal.returns-in-Ok-clause-interrupted
returns-in-Ok-clause-interrupted c = λ yes.
    is-interrupted c.args.self c.args.self.stage c.in-Ok.extent c.interrupt.new.self.listing c.found_with.result c.in-Ok.ensures.lists
    c.found_with.ensures

pub returns-in-Ok-clause-kinds : goal.returns-in-Ok-clause-kinds
returns-in-Ok-clause-kinds c =
    subst (λ (b : Bool). AreOfReading b c.found_with.result.list.items) (sym c.if-has_failed.true)
    (interrupted-kinds c.args.self c.args.self.stage c.in-Ok.extent c.interrupt.new.self.listing c.found_with.result c.requires
    c.in-Ok.ensures.lists
    c.found_with.ensures)

pub returns-in-Ok-finish_statements-clause-interrupted : goal.returns-in-Ok-finish_statements-clause-interrupted
returns-in-Ok-finish_statements-clause-interrupted c =
    IfOk-weaker c.find.result (λ (found : Found). AreOfFile found.list.items)
    (λ (found : Found). IsTrue c.args.has_failed → IsInterrupted c.args.self c.args.self.stage found)
    (λ found are yes. absurd (let clash : false ≡ true = sym c.if-has_failed.false ∙ yes in cc)) c.find.ensures.of_file

pub returns-in-Ok-finish_statements-clause-kinds : goal.returns-in-Ok-finish_statements-clause-kinds
returns-in-Ok-finish_statements-clause-kinds c =
    IfOk-weaker c.find.result (λ (found : Found). AreOfFile found.list.items)
    (λ (found : Found). AreOfReading c.args.has_failed found.list.items)
    (λ found are. subst (λ (b : Bool). AreOfReading b found.list.items) (sym c.if-has_failed.false) are) c.find.ensures.of_file

pub returns-in-Ok-finish_statements-clause-finds : goal.returns-in-Ok-finish_statements-clause-finds
returns-in-Ok-finish_statements-clause-finds c =
    IfOk-weaker c.find.result (λ (found : Found). FindsIn c.finish_statements.new.self (last_stage c.in-Ok-finish_statements.extent) found)
    (λ (found : Found). FindsAll c.args.self found)
    (λ found finds. finds-behind c.args.self c.finish_statements.new.self (last_stage c.in-Ok-finish_statements.extent) found
    c.in-Ok-finish_statements.ensures finds) c.find.ensures.finds
