use Rattle.std.proofs.Common.{ℕ, Ok, Option, Some, subst}
use Rattle.p21_grammar.specs.declared.event.Event.{Event}
use Rattle.p21_stream_statements.specs.StatementReader as statements
use Rattle.p21_stream_syntax.proofs.Walking.{step-ends, step-piece, step-refused, step-statement, step-token}
use Rattle.p21_stream_syntax.specs.Given.{kept_of}
use Rattle.p21_stream_syntax.proofs.walk.Walk.step.Goals as goal

pub returns-in-Err-clause-gives : goal.returns-in-Err-clause-gives
returns-in-Err-clause-gives c = λ limits.
    step-refused limits c.args.self.now.statements c.step.new.self c.step.new.self (kept_of c.args.self.now.given)
    (kept_of c.args.self.now.given) c.args.piece.now c.refused.result c.in-Err.fault c.refused.ensures c.in-Err.ensures.gives

pub returns-in_default-clause-gives : goal.returns-in_default-clause-gives
returns-in_default-clause-gives c = λ limits.
    step-piece limits c.args.self.now.statements c.step.new.self (kept_of c.args.self.now.given) c.args.piece.now
    (subst (λ (a : Option (ℕ × Option Event)). statements.StepGives c.args.self.now.statements c.args.piece.now (Ok a) c.step.new.self)
    c.in_default.is c.in-Ok.ensures.gives)
    c.in-Ok.ensures.limits

pub returns-in_default-event-clause-gives : goal.returns-in_default-event-clause-gives
returns-in_default-event-clause-gives c = λ limits.
    step-token limits c.args.self.now.statements c.step.new.self (kept_of c.args.self.now.given) c.args.piece.now c.in-Some.count
    (subst (λ (e : Option Event). statements.StepGives c.args.self.now.statements c.args.piece.now (Ok (Some (c.in-Some.count, e)))
    c.step.new.self) c.in_default-event.is
    (subst (λ (a : Option (ℕ × Option Event)). statements.StepGives c.args.self.now.statements c.args.piece.now (Ok a) c.step.new.self)
    c.in-Some.is c.in-Ok.ensures.gives))
    c.in-Ok.ensures.limits

pub returns-in-Ok-take-clause-gives : goal.returns-in-Ok-take-clause-gives
returns-in-Ok-take-clause-gives c = λ limits.
    step-statement limits c.args.self.now.statements c.step.new.self (kept_of c.args.self.now.given) (kept_of c.take.new.self)
    c.args.piece.now c.in-Some.count c.in-Some-event.event
    (subst (λ (e : Option Event). statements.StepGives c.args.self.now.statements c.args.piece.now (Ok (Some (c.in-Some.count, e)))
    c.step.new.self) c.in-Some-event.is
    (subst (λ (a : Option (ℕ × Option Event)). statements.StepGives c.args.self.now.statements c.args.piece.now (Ok a) c.step.new.self)
    c.in-Some.is c.in-Ok.ensures.gives))
    c.in-Ok.ensures.limits c.in-Ok-take.ensures.gives

pub returns-in-Err-take-clause-gives : goal.returns-in-Err-take-clause-gives
returns-in-Err-take-clause-gives c = λ limits.
    step-ends limits c.args.self.now.statements c.step.new.self c.step.new.self (kept_of c.args.self.now.given) (kept_of c.take.new.self)
    (kept_of c.take.new.self) c.args.piece.now c.in-Some.count c.in-Some-event.event c.refused-in-Err-take.result c.in-Err-take.fault
    c.refused-in-Err-take.ensures
    (subst (λ (e : Option Event). statements.StepGives c.args.self.now.statements c.args.piece.now (Ok (Some (c.in-Some.count, e)))
    c.step.new.self) c.in-Some-event.is
    (subst (λ (a : Option (ℕ × Option Event)). statements.StepGives c.args.self.now.statements c.args.piece.now (Ok a) c.step.new.self)
    c.in-Some.is c.in-Ok.ensures.gives))
    (subst (λ (a : Option (ℕ × Option Event)). statements.TakesWithinPiece c.args.piece.now (Ok a)) c.in-Some.is c.in-Ok.ensures.takes)
    c.in-Err-take.ensures.gives
