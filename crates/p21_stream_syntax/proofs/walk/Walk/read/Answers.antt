use Rattle.std.proofs.Common.{◌+◌, ℕ, List, Ok, Err, Option, arith, sym, subst}
use Rattle.std.proofs.lemmas.List.{take_rest}
use Rattle.p21_stream_syntax.proofs.Walking.{IsRest, rest-first, rest-on, rounds-few}
use Rattle.p21_stream_syntax.specs.Given.{kept_of}
use Rattle.p21_stream_syntax.specs.Walk.{StepGives, TakesWithinPiece}
use Rattle.p21_stream_syntax.proofs.walk.Walk.read.Goals as goal

pub loop-taken-init : goal.loop-taken-init
loop-taken-init c = rest-first c.args.self.now.statements (kept_of c.args.self.now.given) c.args.piece.now c.requires.way

pub returns-in-Err-clause-gives : goal.returns-in-Err-clause-gives
returns-in-Err-clause-gives c = λ limits. c.loop-taken.invariant.gives limits (Err c.in-Err.refusal) c.step.new.self.statements
    (kept_of c.step.new.self.given) (c.in-Err.ensures.gives limits)

pub returns-in_default-clause-gives : goal.returns-in_default-clause-gives
returns-in_default-clause-gives c = λ limits. c.loop-taken.invariant.gives limits (Ok tt) c.step.new.self.statements
    (kept_of c.step.new.self.given)
    (subst (λ (o : Option ℕ). StepGives limits c.loop-taken.self.statements (kept_of c.loop-taken.self.given) c.loop-taken.rest.now (Ok o)
    c.step.new.self.statements (kept_of c.step.new.self.given)) c.in_default.is (c.in-Ok.ensures.gives limits))

pub loop-taken-preserved : goal.loop-taken-preserved
loop-taken-preserved c =
    let first = c.args.self.now in
    let now = c.loop-taken.self in
    let next = c.step.new.self in
    let rest = c.loop-taken.rest.now in
    subst (λ (l : List ℕ). IsRest first.statements (kept_of first.given) c.args.piece.now next.statements (kept_of next.given) l
    (c.loop-taken.rounds + 1)) (sym (take_rest rest c.in-Some.count))
    (rest-on first.statements now.statements next.statements (kept_of first.given) (kept_of now.given) (kept_of next.given) c.args.piece.now
    rest c.in-Some.count c.loop-taken.rounds c.loop-taken.invariant
    (λ limits. subst (λ (o : Option ℕ). StepGives limits now.statements (kept_of now.given) rest (Ok o) next.statements
    (kept_of next.given)) c.in-Some.is (c.in-Ok.ensures.gives limits))
    (subst (λ (o : Option ℕ). TakesWithinPiece rest (Ok o)) c.in-Some.is c.in-Ok.ensures.takes))

pub overflow_add-rounds : goal.overflow_add-rounds
overflow_add-rounds c =
    let first = c.args.self.now in
    let now = c.loop-taken.self in
    let next = c.step.new.self in
    let rest = c.loop-taken.rest.now in
    let few =
    rounds-few first.statements now.statements next.statements (kept_of first.given) (kept_of now.given) (kept_of next.given)
    c.args.piece.now rest c.in-Some.count c.loop-taken.rounds c.loop-taken.invariant
    (λ limits. subst (λ (o : Option ℕ). StepGives limits now.statements (kept_of now.given) rest (Ok o) next.statements
    (kept_of next.given)) c.in-Some.is (c.in-Ok.ensures.gives limits)) in
    omega (arith, few)
