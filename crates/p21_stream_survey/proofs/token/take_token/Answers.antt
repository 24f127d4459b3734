use Rattle.std.proofs.Common.{◌≡◌, ◌∷◌, [], Option, Some, Ok, inl, inr, subst, arith}
use Rattle.p21_grammar.specs.Statements.{statement_of}
use Rattle.p21_grammar.specs.declared.event.Event.{Event}
use Rattle.p21_stream_log.specs.Log.{StepGives}
use Rattle.p21_stream_survey.proofs.Steps.{step-again, step-refuses, step-takes}
use Rattle.p21_stream_survey.proofs.token.take_token.Goals as goal

pub returns-in-Err-clause-gives : goal.returns-in-Err-clause-gives
returns-in-Err-clause-gives c = step-refuses c.args.log.now c.step.new.self c.args.window.now c.in-Err.fault c.in-Err.ensures.gives

pub returns-then-count-gt0-clause-gives : goal.returns-then-count-gt0-clause-gives
returns-then-count-gt0-clause-gives c =
    let some = c.if-count-gt0.true in
    step-takes c.args.log.now c.step.new.self c.args.window.now c.in-Ok.taken.0 c.in-Ok.taken.1 (inl (omega (arith, some)))
    c.in-Ok.ensures.gives

pub returns-in-Some-clause-gives : goal.returns-in-Some-clause-gives
returns-in-Some-clause-gives c =
    step-takes c.args.log.now c.step.new.self c.args.window.now c.in-Ok.taken.0 (Some c.in-Some.event)
    (inr (λ none. (let clash : statement_of c.in-Some.event ∷ [] ≡ [] = none in cc)))
    (subst (λ (e : Option Event). StepGives c.args.log.now c.args.window.now (Ok (c.in-Ok.taken.0, e)) c.step.new.self) c.in-Some.is
    c.in-Ok.ensures.gives)

pub returns-clause-gives : goal.returns-clause-gives
returns-clause-gives c =
    let none = c.if-count-gt0.false in
    step-again c.args.log.now c.step.new.self c.step-2.new.self c.args.window.now c.in-Ok.taken.0 c.in-Ok.taken.1 c.step-2.result
    (omega (arith, none)) c.in_default.is c.in-Ok.ensures.gives c.step-2.ensures.gives
