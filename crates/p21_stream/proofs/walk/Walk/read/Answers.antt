use Rattle.std.proofs.Common.{◌+◌, ℕ, List, Ok, Err, Option, arith, sym, subst}
use Rattle.std.proofs.lemmas.List.{take_rest}
use Rattle.p21_stream.proofs.Walking.{IsRest, rest-first, rest-on, rounds-few, stays-on}
use Rattle.p21_stream.proofs.walk.Walk.read.Goals as goal
use Rattle.p21_stream.specs.Walk.{EndsNoToken, StepGives, TakesWithinPiece}

pub returns-in-Err-clause-gives : goal.returns-in-Err-clause-gives
returns-in-Err-clause-gives c = c.loop-taken.invariant.rest.gives (Err c.in-Err.refusal) c.advance.new.self.statements
    c.advance.new.self.kept c.in-Err.ensures.gives

pub returns-in-Err-clause-place : goal.returns-in-Err-clause-place
returns-in-Err-clause-place c = c.loop-taken.invariant.rest.places c.in-Err.refusal c.advance.new.self.statements c.in-Err.ensures.place

pub returns-in-Err-clause-no_memory : goal.returns-in-Err-clause-no_memory
returns-in-Err-clause-no_memory c = c.loop-taken.invariant.rest.quiet c.in-Err.refusal c.in-Err.ensures.no_memory

pub returns-in-Err-clause-stays : goal.returns-in-Err-clause-stays
returns-in-Err-clause-stays c = stays-on c.args.limits c.args.self.now.kept c.loop-taken.self.kept c.advance.new.self.kept
    c.loop-taken.invariant.rest.stay c.in-Err.ensures.stays

pub returns-in_default-clause-gives : goal.returns-in_default-clause-gives
returns-in_default-clause-gives c =
    let now = c.loop-taken.self in
    let next = c.advance.new.self in
    c.loop-taken.invariant.rest.gives (Ok tt) next.statements next.kept
    (subst (λ (o : Option ℕ). StepGives c.args.schema.now c.args.limits now.statements now.kept c.loop-taken.rest.now (Ok o) next.statements
    next.kept) c.in_default.is c.in-Ok.ensures.gives)

pub returns-in_default-clause-stays : goal.returns-in_default-clause-stays
returns-in_default-clause-stays c = stays-on c.args.limits c.args.self.now.kept c.loop-taken.self.kept c.advance.new.self.kept
    c.loop-taken.invariant.rest.stay c.in-Ok.ensures.stays

pub loop-taken-preserved : goal.loop-taken-preserved
loop-taken-preserved c =
    let s = c.args.schema.now in
    let limits = c.args.limits in
    let first = c.args.self.now in
    let now = c.loop-taken.self in
    let next = c.advance.new.self in
    let rest = c.loop-taken.rest.now in record {
      rest = subst (λ (l : List ℕ). IsRest s limits first.statements first.kept c.args.piece.now next.statements next.kept l
          (c.loop-taken.rounds + 1)) (sym (take_rest rest c.in-Some.count))
          (rest-on s limits first.statements now.statements next.statements first.kept now.kept next.kept c.args.piece.now rest
          c.in-Some.count c.loop-taken.rounds c.loop-taken.invariant.rest
          (subst (λ (o : Option ℕ). StepGives s limits now.statements now.kept rest (Ok o) next.statements next.kept) c.in-Some.is
          c.in-Ok.ensures.gives)
          (subst (λ (o : Option ℕ). TakesWithinPiece rest (Ok o)) c.in-Some.is c.in-Ok.ensures.takes)
          c.in-Ok.ensures.stays c.in-Ok.ensures.limits
          (subst (λ (o : Option ℕ). EndsNoToken s limits now.statements now.kept rest (Ok o)) c.in-Some.is c.in-Ok.ensures.no_token));
      taker = c.in-Ok.ensures.taker;
    }

pub loop-taken-init : goal.loop-taken-init
loop-taken-init c = record {
  rest = rest-first c.args.schema.now c.args.limits c.args.self.now.statements c.args.self.now.kept c.args.piece.now c.requires.way;
  taker = c.requires.taker;
}

pub overflow_add-rounds : goal.overflow_add-rounds
overflow_add-rounds c =
    let s = c.args.schema.now in
    let limits = c.args.limits in
    let first = c.args.self.now in
    let now = c.loop-taken.self in
    let next = c.advance.new.self in
    let rest = c.loop-taken.rest.now in
    let few =
    rounds-few s limits first.statements now.statements next.statements first.kept now.kept next.kept c.args.piece.now rest c.in-Some.count
    c.loop-taken.rounds c.loop-taken.invariant.rest
    (subst (λ (o : Option ℕ). StepGives s limits now.statements now.kept rest (Ok o) next.statements next.kept) c.in-Some.is
    c.in-Ok.ensures.gives) in
    omega (arith, few)

pub advance-requires-clause-way : goal.advance-requires-clause-way
advance-requires-clause-way c = c.loop-taken.invariant.rest.under_way

pub advance-requires-clause-taker : goal.advance-requires-clause-taker
advance-requires-clause-taker c = c.loop-taken.invariant.taker
