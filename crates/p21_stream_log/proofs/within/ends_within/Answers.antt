use Rattle.std.proofs.Common.{IfSome, Option, subst}
use Rattle.p21_stream_log.proofs.Endings.{within-by}
use Rattle.p21_stream_log.specs.Front.{HasTaken}
use Rattle.p21_tokens.specs.Held.{Held}
use Rattle.p21_stream_log.proofs.within.ends_within.Goals as goal

pub returns-in_default : goal.returns-in_default
returns-in_default c = λ gone.
    within-by c.args.statement.now c.in-Ok-Some.lexer c.in-Err-finish.fault c.in_default.not-NoMemory
    (subst (λ (o : Option Held). IfSome o (λ lexer. HasTaken c.args.statement.now lexer)) c.in-Ok-Some.field-0-is c.in-Ok-Some.ensures)
    c.in-Err-finish.ensures.history c.in-Err-finish.ensures.names
