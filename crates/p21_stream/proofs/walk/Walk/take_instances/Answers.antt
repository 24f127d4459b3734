use Rattle.std.proofs.Common.{ℕ, List, Ok, Option, Some, ◌-◌, ◌<◌, ◌≤◌, arith, drop, length, take, sym, subst, ◌∙◌}
use Rattle.std.proofs.lemmas.List.{length-drop}
use Rattle.std.specs.Prelude.{IfSome}
use Rattle.p21_spec_basics.proofs.Members.{rest_is}
use Rattle.p21_stream.proofs.TakenInstances.{refused-quiet, taken-first, taken-last, taken-more, taken-refused, taken-within}
use Rattle.p21_stream.proofs.Walking.{stays-on}
use Rattle.p21_stream.proofs.walk.Walk.take_instances.Goals as goal
use Rattle.p21_stream.specs.Walk.{EndsBy, EndsNoToken, IsUnderWay, NeedsNoMemory, TakeGives, TakesWithinPiece}

pub loop-taken-init : goal.loop-taken-init
loop-taken-init c = record {
  so_far = taken-first c.args.schema.now c.args.limits c.args.self.now.statements c.args.self.now.kept c.args.piece.now c.requires.way;
  taker = c.requires.taker;
}

pub take_instance-requires-clause-way : goal.take_instance-requires-clause-way
take_instance-requires-clause-way c =
    let now = c.loop-taken.self in
    subst (λ (l : List ℕ). IsUnderWay c.args.schema.now c.args.limits now.statements now.kept l)
    (sym (rest_is c.args.piece.now c.loop-taken.count)) c.loop-taken.invariant.so_far.under_way

pub take_instance-requires-clause-taker : goal.take_instance-requires-clause-taker
take_instance-requires-clause-taker c = c.loop-taken.invariant.taker

pub returns-in-Err-clause-gives : goal.returns-in-Err-clause-gives
returns-in-Err-clause-gives c =
    let s = c.args.schema.now in
    let limits = c.args.limits in
    let piece = c.args.piece.now in
    let old = c.args.self.now in
    let now = c.loop-taken.self in
    let so_far = c.loop-taken.invariant.so_far in
    taken-refused s limits old.statements now.statements old.kept now.kept piece c.loop-taken.count c.in-Err.refusal so_far.within
    so_far.gives
    (subst (λ (l : List ℕ). EndsBy s limits now.statements now.kept l c.in-Err.refusal) (rest_is piece c.loop-taken.count)
    c.in-Err.ensures.gives)

pub returns-in-Err-clause-no_memory : goal.returns-in-Err-clause-no_memory
returns-in-Err-clause-no_memory c =
    let s = c.args.schema.now in
    let limits = c.args.limits in
    let piece = c.args.piece.now in
    let old = c.args.self.now in
    let now = c.loop-taken.self in
    let so_far = c.loop-taken.invariant.so_far in
    refused-quiet s limits old.statements now.statements old.kept now.kept piece c.loop-taken.count c.in-Err.refusal so_far.gives
    so_far.none
    (subst (λ (l : List ℕ). NeedsNoMemory s limits now.statements now.kept l c.in-Err.refusal) (rest_is piece c.loop-taken.count)
    c.in-Err.ensures.no_memory)

pub returns-in-Err-clause-stays : goal.returns-in-Err-clause-stays
returns-in-Err-clause-stays c = stays-on c.args.limits c.args.self.now.kept c.loop-taken.self.kept c.take_instance.new.self.kept
    c.loop-taken.invariant.so_far.stay c.in-Err.ensures.stays

pub returns-in-Err-clause-limits : goal.returns-in-Err-clause-limits
returns-in-Err-clause-limits c = c.in-Err.ensures.limits ∙ c.loop-taken.invariant.so_far.limits_are

pub returns-in_default-clause-takes : goal.returns-in_default-clause-takes
returns-in_default-clause-takes c =
    subst (λ (o : Option ℕ). TakesWithinPiece c.args.piece.now (Ok o)) (sym c.some_bytes.ensures)
    (taken-within c.args.piece.now c.loop-taken.count c.loop-taken.invariant.so_far.within)

pub returns-in_default-clause-gives : goal.returns-in_default-clause-gives
returns-in_default-clause-gives c =
    let s = c.args.schema.now in
    let limits = c.args.limits in
    let piece = c.args.piece.now in
    let old = c.args.self.now in
    let now = c.loop-taken.self in
    let next = c.take_instance.new.self in
    let rest : List ℕ = take (length piece - c.loop-taken.count) (drop c.loop-taken.count piece) in
    taken-last s limits old.statements now.statements next.statements old.kept now.kept next.kept piece rest c.loop-taken.count
    c.some_bytes.result c.some_bytes.ensures c.loop-taken.invariant.so_far.gives
    (subst (λ (o : Option ℕ). TakeGives s limits now.statements now.kept rest (Ok o) next.statements next.kept) c.in_default.is
    c.in-Ok.ensures.gives)

pub returns-in_default-clause-no_token : goal.returns-in_default-clause-no_token
returns-in_default-clause-no_token c =
    let old = c.args.self.now in
    subst (λ (o : Option ℕ). EndsNoToken c.args.schema.now c.args.limits old.statements old.kept c.args.piece.now (Ok o))
    (sym c.some_bytes.ensures) c.loop-taken.invariant.so_far.none

pub returns-in_default-clause-stays : goal.returns-in_default-clause-stays
returns-in_default-clause-stays c = stays-on c.args.limits c.args.self.now.kept c.loop-taken.self.kept c.take_instance.new.self.kept
    c.loop-taken.invariant.so_far.stay c.in-Ok.ensures.stays

pub returns-in_default-clause-limits : goal.returns-in_default-clause-limits
returns-in_default-clause-limits c = c.in-Ok.ensures.limits ∙ c.loop-taken.invariant.so_far.limits_are

pub loop-taken-preserved : goal.loop-taken-preserved
loop-taken-preserved c =
    let s = c.args.schema.now in
    let limits = c.args.limits in
    let piece = c.args.piece.now in
    let old = c.args.self.now in
    let now = c.loop-taken.self in
    let next = c.take_instance.new.self in
    let count = c.loop-taken.count in
    let more = c.in-Some.more in
    let rest : List ℕ = take (length piece - count) (drop count piece) in
    let behind = rest_is piece count in record {
      so_far = taken-more s limits old.statements now.statements next.statements old.kept now.kept next.kept piece count more
          c.loop-taken.invariant.so_far
          (subst (λ (l : List ℕ). TakeGives s limits now.statements now.kept l (Ok (Some more)) next.statements next.kept) behind
          (subst (λ (o : Option ℕ). TakeGives s limits now.statements now.kept rest (Ok o) next.statements next.kept) c.in-Some.is
          c.in-Ok.ensures.gives))
          (subst (λ (o : Option ℕ). IfSome o (λ n. 0 < n)) c.in-Some.is c.in-Ok.ensures.some)
          (subst (λ (l : List ℕ). more ≤ length l) behind (subst (λ (o : Option ℕ). TakesWithinPiece rest (Ok o)) c.in-Some.is
          c.in-Ok.ensures.takes))
          (subst (λ (l : List ℕ). EndsNoToken s limits now.statements now.kept l (Ok (Some more))) behind
          (subst (λ (o : Option ℕ). EndsNoToken s limits now.statements now.kept rest (Ok o)) c.in-Some.is c.in-Ok.ensures.no_token))
          c.in-Ok.ensures.stays c.in-Ok.ensures.limits;
      taker = c.in-Ok.ensures.taker;
    }

pub loop-taken-smaller : goal.loop-taken-smaller
loop-taken-smaller c =
    let piece = c.args.piece.now in
    let count = c.loop-taken.count in
    let rest : List ℕ = take (length piece - count) (drop count piece) in
    let some = subst (λ (o : Option ℕ). IfSome o (λ n. 0 < n)) c.in-Some.is c.in-Ok.ensures.some in
    let within = subst (λ (l : List ℕ). c.in-Some.more ≤ length l) (rest_is piece count)
    (subst (λ (o : Option ℕ). TakesWithinPiece rest (Ok o)) c.in-Some.is c.in-Ok.ensures.takes) in
    omega (arith, some, within, length-drop count piece)

pub overflow_add-count : goal.overflow_add-count
overflow_add-count c =
    let piece = c.args.piece.now in
    let count = c.loop-taken.count in
    let rest : List ℕ = take (length piece - count) (drop count piece) in
    let within = subst (λ (l : List ℕ). c.in-Some.more ≤ length l) (rest_is piece count)
    (subst (λ (o : Option ℕ). TakesWithinPiece rest (Ok o)) c.in-Some.is c.in-Ok.ensures.takes) in
    omega (arith, c.loop-taken.invariant.so_far.within, within, length-drop count piece)
