use Rattle.std.proofs.Common.{◌≡◌, ◌∙◌, IfErr, Result, Some, refl, sym, subst}
use Rattle.p21_stream.proofs.PieceFeeding.{again-places, again-quiet, bounded-refused, bounded-whole, fed-again, fed-checks, fed-places, fed-quiet, fed-refused, fed-whole, under-way}
use Rattle.p21_stream.proofs.progress.Progress.feed.Goals as goal
use Rattle.p21_stream.specs.Histories.{FeedChecks, FeedGives, FeedNeedsNoMemory, FeedPlaces}
use Rattle.p21_stream.specs.Inside.{held_in}
use Rattle.p21_stream_statements.specs.Source.{IsOfBytes}
use Rattle.p21_stream_statements.specs.declared.refusal.Refusal.{Refusal}

pub returns-in-Some-clause-gives : goal.returns-in-Some-clause-gives
returns-in-Some-clause-gives c = fed-again (held_in c.args.schema.now c.args.limits c.args.self.now) c.args.piece.now c.in-Some.refusal
    c.in-Some.is

pub returns-in-Ok-clause-gives : goal.returns-in-Ok-clause-gives
returns-in-Ok-clause-gives c =
    let old = c.args.self.now in
    let next = c.read.new.self in
    fed-whole c.args.schema.now c.args.limits old.walk.statements next.statements old.walk.kept next.kept c.args.piece.now old.refused
    c.in_default.is c.in-Ok.ensures.gives

pub returns-in-Ok-clause-checks : goal.returns-in-Ok-clause-checks
returns-in-Ok-clause-checks c =
    let old = c.args.self.now in
    let next = c.read.new.self in
    fed-checks c.args.schema.now c.args.limits old.walk.statements next.statements old.walk.kept next.kept c.args.piece.now old.refused
    c.in_default.is c.in-Ok.ensures.gives

pub returns-in-Ok-clause-bounded : goal.returns-in-Ok-clause-bounded
returns-in-Ok-clause-bounded c =
    let old = c.args.self.now in
    let next = c.read.new.self in
    bounded-whole c.args.schema.now c.args.limits old.walk.statements next.statements old.walk.kept next.kept c.args.piece.now old.refused
    c.in_default.is c.in-Ok.ensures.gives c.in-Ok.ensures.stays.0 c.in-Ok.ensures.limits c.requires.bounded

pub returns-in-Err-clause-gives : goal.returns-in-Err-clause-gives
returns-in-Err-clause-gives c =
    let s = c.args.schema.now in
    let limits = c.args.limits in
    let old = c.args.self.now in
    let next = c.read.new.self in
    let new = record old { walk = record next { kept = c.new.result }; refused = Some c.in-Err.refusal } in
    subst (λ (r : Result (Unit {0}) Refusal). FeedGives (held_in s limits old) c.args.piece.now r (held_in s limits new))
    (sym (c.answered.ensures c.in-Err.refusal refl))
    (fed-refused s limits old.walk.statements next.statements old.walk.kept c.new.result c.args.piece.now old.refused c.in-Err.refusal
    c.in-Err.ensures.gives)

pub returns-in-Err-clause-checks : goal.returns-in-Err-clause-checks
returns-in-Err-clause-checks c = subst (λ (r : Result (Unit {0}) Refusal). FeedChecks
    (held_in c.args.schema.now c.args.limits c.args.self.now) c.args.piece.now r) (sym (c.answered.ensures c.in-Err.refusal refl)) tt

pub returns-in-Some-clause-no_memory : goal.returns-in-Some-clause-no_memory
returns-in-Some-clause-no_memory c = again-quiet (held_in c.args.schema.now c.args.limits c.args.self.now) c.args.piece.now
    c.in-Some.refusal c.in-Some.is

pub returns-in-Err-clause-no_memory : goal.returns-in-Err-clause-no_memory
returns-in-Err-clause-no_memory c =
    let old = c.args.self.now in
    subst (λ (r : Result (Unit {0}) Refusal). FeedNeedsNoMemory (held_in c.args.schema.now c.args.limits old) c.args.piece.now r)
    (sym (c.answered.ensures c.in-Err.refusal refl))
    (fed-quiet c.args.schema.now c.args.limits old.walk.statements old.walk.kept c.args.piece.now old.refused c.in-Err.refusal
    c.in-Err.ensures.no_memory)

pub returns-in-Some-clause-kind : goal.returns-in-Some-clause-kind
returns-in-Some-clause-kind c = c.requires.bounded.of_bytes c.in-Some.refusal c.in-Some.is

pub returns-in-Err-clause-kind : goal.returns-in-Err-clause-kind
returns-in-Err-clause-kind c = subst (λ (r : Result (Unit {0}) Refusal). IfErr r (λ refusal. IsOfBytes refusal.fault))
    (sym (c.answered.ensures c.in-Err.refusal refl)) c.in-Err.ensures.kind

pub returns-in-Err-clause-bounded : goal.returns-in-Err-clause-bounded
returns-in-Err-clause-bounded c =
    let old = c.args.self.now in
    bounded-refused c.args.schema.now c.args.limits old.walk.statements c.read.new.self.statements old.walk.kept c.new.result old.refused
    c.in-Err.refusal c.new.ensures c.in-Err.ensures.limits c.in-Err.ensures.kind c.requires.bounded

pub read-requires-clause-way : goal.read-requires-clause-way
read-requires-clause-way c =
    let old = c.args.self.now in
    under-way c.args.schema.now c.args.limits old.walk.statements old.walk.kept old.refused c.args.piece.now c.requires.bounded
    c.in_default.is

pub returns-in-Err-clause-refused : goal.returns-in-Err-clause-refused
returns-in-Err-clause-refused c = subst (λ (r : Result (Unit {0}) Refusal). IfErr r (λ refusal. Some c.in-Err.refusal ≡ Some refusal))
    (sym (c.answered.ensures c.in-Err.refusal refl)) refl

pub returns-in-Ok-clause-lines : goal.returns-in-Ok-clause-lines
returns-in-Ok-clause-lines c lines keeps none = c.in-Ok.ensures.stays.1 ∙ keeps none

pub returns-in-Err-clause-lines : goal.returns-in-Err-clause-lines
returns-in-Err-clause-lines c lines keeps none = cc

pub returns-in-Some-clause-place : goal.returns-in-Some-clause-place
returns-in-Some-clause-place c = again-places (held_in c.args.schema.now c.args.limits c.args.self.now) c.args.piece.now c.in-Some.refusal
    c.in-Some.is

pub returns-in-Err-clause-place : goal.returns-in-Err-clause-place
returns-in-Err-clause-place c =
    let s = c.args.schema.now in
    let limits = c.args.limits in
    let old = c.args.self.now in
    let next = c.read.new.self in
    let new = record old { walk = record next { kept = c.new.result }; refused = Some c.in-Err.refusal } in
    subst (λ (r : Result (Unit {0}) Refusal). FeedPlaces (held_in s limits old) c.args.piece.now r (held_in s limits new))
    (sym (c.answered.ensures c.in-Err.refusal refl))
    (fed-places s limits old.walk.statements next.statements old.walk.kept c.new.result c.args.piece.now old.refused c.in-Err.refusal
    c.in-Err.ensures.place)
