use Rattle.std.proofs.Common.{arith}
use Rattle.p21_tokens.proofs.LeadingTokens.{along-front, along-no_front, along-no_memory}
use Rattle.p21_tokens.proofs.Scanning.{along-blanks, along-no_blanks, along-walked, along-token, along-fault}
use Rattle.p21_tokens.proofs.lexer.Lexer.scan.Goals as goal

pub returns-in-Some-Ok : goal.returns-in-Some-Ok
returns-in-Some-Ok c =
    along-front c.args.self.now c.loop-taken.self c.take_leading_token.new.self c.args.piece.now c.loop-taken.taken c.loop-taken.invariant c.in-Some-Ok.count c.in-Some-Ok.token
    (rw c.in-Some-Ok.field-0-is at c.in-Some-Ok.ensures)

pub returns-in-Some-Err : goal.returns-in-Some-Err
returns-in-Some-Err c =
    along-no_memory c.args.self.now c.loop-taken.self c.take_leading_token.new.self c.args.piece.now c.loop-taken.taken c.loop-taken.invariant (omega arith) c.in-Some-Err._no_memory
    (rw c.in-Some-Err.field-0-is at c.in-Some-Err.ensures)

pub loop-taken-preserved : goal.loop-taken-preserved
loop-taken-preserved c =
    let no_front = along-no_front c.args.self.now c.loop-taken.self c.take_leading_token.new.self c.args.piece.now c.loop-taken.taken c.loop-taken.invariant (c.in-None.ensures {u = tt}) in
    let none = along-no_blanks c.args.self.now c.take_leading_token.new.self c.take_blanks-blanks.new.self c.args.piece.now c.loop-taken.taken no_front c.take_blanks-blanks.result (omega arith) c.take_blanks-blanks.ensures in
    along-walked c.args.self.now c.take_blanks-blanks.new.self c.walk_on.new.self c.args.piece.now c.loop-taken.taken none c.in-Ok-default-None.count (rw c.in-Ok-default-None.field-0-1-is at c.in-Ok-default-None.ensures)

pub returns-in-Ok-default-Some : goal.returns-in-Ok-default-Some
returns-in-Ok-default-Some c =
    let no_front = along-no_front c.args.self.now c.loop-taken.self c.take_leading_token.new.self c.args.piece.now c.loop-taken.taken c.loop-taken.invariant (c.in-None.ensures {u = tt}) in
    let none = along-no_blanks c.args.self.now c.take_leading_token.new.self c.take_blanks-blanks.new.self c.args.piece.now c.loop-taken.taken no_front c.take_blanks-blanks.result (omega arith) c.take_blanks-blanks.ensures in
    along-token c.args.self.now c.take_blanks-blanks.new.self c.walk_on.new.self c.args.piece.now c.loop-taken.taken none c.in-Ok-default-Some.count c.in-Ok-default-Some.token (rw c.in-Ok-default-Some.field-0-1-is at c.in-Ok-default-Some.ensures)

pub returns-in-Err : goal.returns-in-Err
returns-in-Err c =
    let no_front = along-no_front c.args.self.now c.loop-taken.self c.take_leading_token.new.self c.args.piece.now c.loop-taken.taken c.loop-taken.invariant (c.in-None.ensures {u = tt}) in
    let none = along-no_blanks c.args.self.now c.take_leading_token.new.self c.take_blanks-blanks.new.self c.args.piece.now c.loop-taken.taken no_front c.take_blanks-blanks.result (omega arith) c.take_blanks-blanks.ensures in
    along-fault c.args.self.now c.take_blanks-blanks.new.self c.walk_on.new.self c.args.piece.now c.loop-taken.taken none c.in-Err.fault (c.in-Err.ensures {u = tt})

pub loop-taken-preserved-then-blanks-gt0 : goal.loop-taken-preserved-then-blanks-gt0
loop-taken-preserved-then-blanks-gt0 c =
    let no_front = along-no_front c.args.self.now c.loop-taken.self c.take_leading_token.new.self c.args.piece.now c.loop-taken.taken c.loop-taken.invariant (c.in-None.ensures {u = tt}) in
    along-blanks c.args.self.now c.take_leading_token.new.self c.take_blanks-blanks.new.self c.args.piece.now c.loop-taken.taken no_front c.take_blanks-blanks.result c.take_blanks-blanks.ensures
