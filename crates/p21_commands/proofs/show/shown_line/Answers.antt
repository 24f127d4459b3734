use Rattle.std.proofs.lemmas.Result.{IfErr-weaker, IfOk-weaker}
use Rattle.p21_commands.proofs.FileFailing.{file-fails, under-refused}
use Rattle.p21_commands.proofs.Showing.{is-shown, missing-fails, not-shown}
use Rattle.p21_commands.proofs.show.shown_line.Goals as goal

pub returns-in-Ok-clause-ok : goal.returns-in-Ok-clause-ok
returns-in-Ok-clause-ok g c = λ reader declares. IfOk-weaker c.statement_answer_line.result _ _
    (λ line is. is-shown reader _ _ _ _ _ c.usual.ensures declares c.in-Ok.accepted line.items c.in-Ok.ensures.ok is)
    c.statement_answer_line.ensures.ok

pub returns-in-Ok-clause-err : goal.returns-in-Ok-clause-err
returns-in-Ok-clause-err g c = λ reader declares. IfErr-weaker c.statement_answer_line.result _ _
    (λ fault is. missing-fails reader _ _ _ _ _ c.usual.ensures declares c.in-Ok.accepted fault c.in-Ok.ensures.ok is)
    c.statement_answer_line.ensures.err

pub returns-in-Err-clause-err : goal.returns-in-Err-clause-err
returns-in-Err-clause-err g c = λ reader declares. not-shown reader _ _ _ _
    (under-refused reader _ _ _ (file-fails reader _ _ _ _ c.in-Err.refusal _ c.usual.ensures c.fault_of.ensures c.in-Err.ensures.err
    declares))
