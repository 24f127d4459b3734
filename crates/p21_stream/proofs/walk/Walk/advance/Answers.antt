use Rattle.std.proofs.Common.{Ok, Option, ℕ, subst, sym}
use Rattle.std.specs.Prelude.{IfErr}
use Rattle.p21_shorter_instances.specs.Taker.{IsTakerOf}
use Rattle.p21_stream.proofs.Walking.{as-untaken, stays-on, way-untaken}
use Rattle.p21_stream.proofs.walk.Walk.advance.Goals as goal
use Rattle.p21_stream.specs.Walk.{EndsNoToken, NeedsNoMemory, PlacesByte, StepGives, TakeGives, TakesWithinPiece}
use Rattle.p21_stream_statements.proofs.Placing.{statement-placed}
use Rattle.p21_stream_statements.proofs.Sources.{statement-of_bytes}
use Rattle.p21_stream_statements.specs.Place.{place_behind}
use Rattle.p21_stream_statements.specs.StatementReader.{limits_of}

pub step-requires : goal.step-requires
step-requires c =
    let old = c.args.self.now in
    let new = c.take_instances.new.self in record {
      way = way-untaken c.args.schema.now c.args.limits old.statements new.statements old.kept new.kept c.args.piece.now _ c.in_default.is
          c.in-Ok.ensures.gives c.requires.way;
    }

pub returns-in-Some-clause-takes : goal.returns-in-Some-clause-takes
returns-in-Some-clause-takes c = subst (λ (o : Option ℕ). TakesWithinPiece c.args.piece.now (Ok o)) c.in-Some.is c.in-Ok.ensures.takes

pub returns-in-Some-clause-gives : goal.returns-in-Some-clause-gives
returns-in-Some-clause-gives c =
    let old = c.args.self.now in
    let new = c.take_instances.new.self in
    subst (λ (o : Option ℕ). TakeGives c.args.schema.now c.args.limits old.statements old.kept c.args.piece.now (Ok o) new.statements
    new.kept) c.in-Some.is c.in-Ok.ensures.gives

pub returns-in-Some-clause-no_token : goal.returns-in-Some-clause-no_token
returns-in-Some-clause-no_token c =
    subst (λ (o : Option ℕ). EndsNoToken c.args.schema.now c.args.limits c.args.self.now.statements c.args.self.now.kept c.args.piece.now
    (Ok o)) c.in-Some.is c.in-Ok.ensures.no_token

pub returns-clause-gives : goal.returns-clause-gives
returns-clause-gives c =
    let old = c.args.self.now in
    let new = c.take_instances.new.self in
    let next = c.step.new.self in
    as-untaken c.args.schema.now c.args.limits (λ h k. StepGives c.args.schema.now c.args.limits h k c.args.piece.now c.step.result
    next.statements next.kept) old.statements new.statements old.kept new.kept c.args.piece.now _ c.in_default.is c.in-Ok.ensures.gives
    c.step.ensures.gives

pub returns-clause-no_memory : goal.returns-clause-no_memory
returns-clause-no_memory c =
    let old = c.args.self.now in
    let new = c.take_instances.new.self in
    as-untaken c.args.schema.now c.args.limits (λ h k. IfErr c.step.result
    (NeedsNoMemory c.args.schema.now c.args.limits h k c.args.piece.now)) old.statements new.statements old.kept new.kept
    c.args.piece.now _ c.in_default.is c.in-Ok.ensures.gives c.step.ensures.no_memory

pub returns-clause-no_token : goal.returns-clause-no_token
returns-clause-no_token c =
    let old = c.args.self.now in
    let new = c.take_instances.new.self in
    as-untaken c.args.schema.now c.args.limits (λ h k. EndsNoToken c.args.schema.now c.args.limits h k c.args.piece.now c.step.result)
    old.statements new.statements old.kept new.kept c.args.piece.now _ c.in_default.is c.in-Ok.ensures.gives c.step.ensures.no_token

pub returns-clause-place : goal.returns-clause-place
returns-clause-place c =
    let old = c.args.self.now in
    let new = c.take_instances.new.self in
    as-untaken c.args.schema.now c.args.limits (λ h k. IfErr c.step.result
    (PlacesByte c.args.schema.now c.args.limits h k c.args.piece.now c.step.new.self.statements)) old.statements new.statements old.kept
    new.kept c.args.piece.now _ c.in_default.is c.in-Ok.ensures.gives c.step.ensures.place

pub returns-clause-stays : goal.returns-clause-stays
returns-clause-stays c = stays-on c.args.limits c.args.self.now.kept c.take_instances.new.self.kept c.step.new.self.kept
    c.in-Ok.ensures.stays c.step.ensures.stays

pub returns-clause-taker : goal.returns-clause-taker
returns-clause-taker c = subst (IsTakerOf c.args.schema.now) (sym c.step.ensures.taker) c.in-Ok.ensures.taker

pub returns-in-Err-clause-kind : goal.returns-in-Err-clause-kind
returns-in-Err-clause-kind c = statement-of_bytes c.in-Err.refusal.fault c.in-Err.ensures.kind

pub returns-in-Err-clause-place : goal.returns-in-Err-clause-place
returns-in-Err-clause-place c reading live at =
    statement-placed (limits_of c.args.self.now.statements) reading.taken c.args.piece.now c.in-Err.refusal.fault
    (place_behind c.take_instances.new.self.statements) c.in-Err.ensures.kind
