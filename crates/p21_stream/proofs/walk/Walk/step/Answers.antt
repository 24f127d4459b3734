use Rattle.std.proofs.Common.{ℕ, None, Ok, Option, Some, subst, sym}
use Rattle.p21_grammar.specs.declared.event.Event.{Event}
use Rattle.p21_stream.proofs.Walking.{given-event, statement-follows, step-ends, step-piece, step-quiet, step-refused, step-statement, step-token, token-none, token-quiet}
use Rattle.p21_stream.proofs.walk.Walk.step.Goals as goal
use Rattle.p21_stream_statements.proofs.Placing.{statement-placed}
use Rattle.p21_stream_statements.proofs.Sources.{statement-of_bytes}
use Rattle.p21_stream_statements.specs.Place.{HasPlace, place_behind}
use Rattle.p21_stream_statements.specs.Source.{IsOfBytes, IsOfStatement}
use Rattle.p21_stream_statements.specs.StatementReader as statements
use Rattle.p21_stream_statements.specs.StatementReader.{limits_of}

pub returns-in-Err-clause-gives : goal.returns-in-Err-clause-gives
returns-in-Err-clause-gives c =
    step-refused c.args.schema.now c.args.limits c.args.self.now.statements c.step.new.self c.args.self.now.kept c.args.piece.now
    c.refused.result c.in-Err.fault c.refused.ensures c.in-Err.ensures.gives

pub returns-in_default-clause-gives : goal.returns-in_default-clause-gives
returns-in_default-clause-gives c =
    step-piece c.args.schema.now c.args.limits c.args.self.now.statements c.step.new.self c.args.self.now.kept c.args.piece.now
    (subst (λ (a : Option (ℕ × Option Event)). statements.StepGives c.args.self.now.statements c.args.piece.now (Ok a) c.step.new.self)
    c.in_default.is c.in-Ok.ensures.gives) c.in-Ok.ensures.limits

pub returns-in_default-event-clause-gives : goal.returns-in_default-event-clause-gives
returns-in_default-event-clause-gives c =
    let old = c.args.self.now.statements in
    step-token c.args.schema.now c.args.limits old c.step.new.self c.args.self.now.kept c.args.piece.now c.in-Some.count
    (given-event old c.step.new.self c.args.piece.now _ c.in-Some.count c.in-Some.event None c.in-Some.is c.in_default-event.is
    c.in-Ok.ensures.gives) c.in-Ok.ensures.limits

pub returns-in-Ok-take_statement-clause-gives : goal.returns-in-Ok-take_statement-clause-gives
returns-in-Ok-take_statement-clause-gives c =
    let old = c.args.self.now.statements in
    let event = c.in-Some-event.event in
    step-statement c.args.schema.now c.args.limits old c.step.new.self c.args.self.now.kept c.take_statement.new.kept c.args.piece.now
    c.in-Some.count event
    (given-event old c.step.new.self c.args.piece.now _ c.in-Some.count c.in-Some.event (Some event) c.in-Some.is c.in-Some-event.is
    c.in-Ok.ensures.gives) c.in-Ok.ensures.limits
    c.in-Ok-take_statement.ensures.gives

pub returns-in-Err-take_statement-clause-gives : goal.returns-in-Err-take_statement-clause-gives
returns-in-Err-take_statement-clause-gives c =
    let old = c.args.self.now.statements in
    let event = c.in-Some-event.event in
    step-ends c.args.schema.now c.args.limits c.well_formed-2.ensures old c.step.new.self c.args.self.now.kept c.take_statement.new.kept
    c.args.piece.now c.in-Some.count event
    c.refused-in-Err-take_statement.result c.in-Err-take_statement.fault c.refused-in-Err-take_statement.ensures
    (given-event old c.step.new.self c.args.piece.now _ c.in-Some.count c.in-Some.event (Some event) c.in-Some.is c.in-Some-event.is
    c.in-Ok.ensures.gives)
    (subst (λ (a : Option (ℕ × Option Event)). statements.TakesWithinPiece c.args.piece.now (Ok a)) c.in-Some.is c.in-Ok.ensures.takes)
    c.in-Err-take_statement.ensures.gives

pub returns-in-Err-clause-no_memory : goal.returns-in-Err-clause-no_memory
returns-in-Err-clause-no_memory c =
    step-quiet c.args.schema.now c.args.limits c.args.self.now.statements c.args.self.now.kept c.args.piece.now c.refused.result
    c.in-Err.fault c.refused.ensures c.in-Err.ensures.no_memory

pub returns-in_default-event-clause-no_token : goal.returns-in_default-event-clause-no_token
returns-in_default-event-clause-no_token c =
    token-none c.args.schema.now c.args.limits c.args.self.now.statements c.args.self.now.kept c.args.piece.now
    (c.in-Some.count, c.in-Some.event)
    (subst (λ (a : Option (ℕ × Option Event)). statements.NeedsNoMemory c.args.self.now.statements c.args.piece.now (Ok a)) c.in-Some.is
    c.in-Ok.ensures.no_memory) c.in-Some.count

pub returns-in-Ok-take_statement-clause-no_token : goal.returns-in-Ok-take_statement-clause-no_token
returns-in-Ok-take_statement-clause-no_token c =
    token-none c.args.schema.now c.args.limits c.args.self.now.statements c.args.self.now.kept c.args.piece.now
    (c.in-Some.count, c.in-Some.event)
    (subst (λ (a : Option (ℕ × Option Event)). statements.NeedsNoMemory c.args.self.now.statements c.args.piece.now (Ok a)) c.in-Some.is
    c.in-Ok.ensures.no_memory) c.in-Some.count

pub returns-in-Err-take_statement-clause-no_memory : goal.returns-in-Err-take_statement-clause-no_memory
returns-in-Err-take_statement-clause-no_memory c =
    token-quiet c.args.schema.now c.args.limits c.args.self.now.statements c.args.self.now.kept c.args.piece.now
    (c.in-Some.count, c.in-Some.event)
    (subst (λ (a : Option (ℕ × Option Event)). statements.NeedsNoMemory c.args.self.now.statements c.args.piece.now (Ok a)) c.in-Some.is
    c.in-Ok.ensures.no_memory) c.refused-in-Err-take_statement.result

pub take_statement-requires : goal.take_statement-requires
take_statement-requires c =
    let old = c.args.self.now.statements in
    let event = c.in-Some-event.event in
    statement-follows c.args.schema.now c.args.limits old c.step.new.self c.args.self.now.kept c.args.piece.now c.in-Some.count event
    c.requires.way
    (given-event old c.step.new.self c.args.piece.now _ c.in-Some.count c.in-Some.event (Some event) c.in-Some.is c.in-Some-event.is
    c.in-Ok.ensures.gives) c.in-Ok.ensures.limits

pub returns-in-Err-clause-place : goal.returns-in-Err-clause-place
returns-in-Err-clause-place c reading live at =
    subst (λ f. HasPlace (limits_of c.args.self.now.statements) reading.taken c.args.piece.now f (place_behind c.step.new.self))
    (sym c.refused.ensures) (c.in-Err.ensures.place reading live.reads at)

pub returns-in-Err-take_statement-clause-place : goal.returns-in-Err-take_statement-clause-place
returns-in-Err-take_statement-clause-place c reading live at =
    statement-placed (limits_of c.args.self.now.statements) reading.taken c.args.piece.now c.refused-in-Err-take_statement.result.fault
    (place_behind c.step.new.self)
    (subst IsOfStatement (sym c.refused-in-Err-take_statement.ensures) c.in-Err-take_statement.ensures.kind)

pub returns-in-Err-take_statement-clause-kind : goal.returns-in-Err-take_statement-clause-kind
returns-in-Err-take_statement-clause-kind c =
    subst IsOfBytes (sym c.refused-in-Err-take_statement.ensures)
    (statement-of_bytes c.in-Err-take_statement.fault c.in-Err-take_statement.ensures.kind)
