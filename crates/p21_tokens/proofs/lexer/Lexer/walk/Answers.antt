use Rattle.std.proofs.Common.{get_or, refl}
use Rattle.p21_tokens.proofs.Scanning.{run-nothing, along-gave, along-handed, along-refused, walked-no_memory}
use Rattle.p21_tokens.proofs.lexer.Lexer.walk.Goals as goal

pub returns-in-Ok-Gave : goal.returns-in-Ok-Gave
returns-in-Ok-Gave c =
    let bytes = c.args.bytes.now in
    let none = run-nothing c.args.self.now c.take_run.new.self bytes c.in-Ok-eq0.field-0 c.in-Ok-eq0.field-0-test (c.in-Ok-eq0.ensures {u = tt}) in
    along-gave c.args.self.now c.take_run.new.self c.step.new.self bytes 0 (get_or bytes 0 0) c.requires refl none c.in-Ok-Gave.token (rw c.in-Ok-Gave.field-0-is at c.in-Ok-Gave.ensures)

pub returns-in-Ok-Handed : goal.returns-in-Ok-Handed
returns-in-Ok-Handed c =
    let bytes = c.args.bytes.now in
    let none = run-nothing c.args.self.now c.take_run.new.self bytes c.in-Ok-eq0.field-0 c.in-Ok-eq0.field-0-test (c.in-Ok-eq0.ensures {u = tt}) in
    along-handed c.args.self.now c.take_run.new.self c.step.new.self bytes 0 (get_or bytes 0 0) c.requires refl none c.in-Ok-Handed.token (rw c.in-Ok-Handed.field-0-is at c.in-Ok-Handed.ensures)

pub returns-in-Err-step : goal.returns-in-Err-step
returns-in-Err-step c =
    let bytes = c.args.bytes.now in
    let none = run-nothing c.args.self.now c.take_run.new.self bytes c.in-Ok-eq0.field-0 c.in-Ok-eq0.field-0-test (c.in-Ok-eq0.ensures {u = tt}) in
    along-refused c.args.self.now c.take_run.new.self c.step.new.self bytes 0 (get_or bytes 0 0) c.requires refl none c.in-Err-step.fault c.in-Err-step.ensures

pub returns-in-Err : goal.returns-in-Err
returns-in-Err c = walked-no_memory c.args.self.now c.take_run.new.self c.args.bytes.now c.in-Err.fault c.requires (c.in-Err.ensures {u = tt})
