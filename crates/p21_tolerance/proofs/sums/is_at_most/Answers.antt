use Rattle.std.proofs.Common.{◌≡◌, ◌↔◌, ℕ, ◌+◌, ◌-◌, ◌*◌, ◌^◌, ◌≤◌, Bool, Some, ap, subst, arith}
use Rattle.p21_tolerance.specs.Sums.{IsSumBelow, sum_of}
use Rattle.p21_tolerance.proofs.SumsLeft.{at-end, both-ways, decided, one-further, other-way, sum-below, sum-none}
use Rattle.p21_tolerance.proofs.sums.is_at_most.Goals as goal

pub returns-in-Some : goal.returns-in-Some
returns-in-Some c =
    let old = c.loop-place in
    let here = c.loop-place.place - 1 in
    let left = c.taken-left_digit in
    let right = c.taken-right_digit in
    let ahead = c.then-ahead.result in
    let (both, first, second) = c.then-ahead.ensures.same in
    let further = one-further old.ahead.left old.ahead.right left.result.0 right.result.0 both ahead.left ahead.right old.place here
    (sum_of old.left) (sum_of old.right) (sum_of left.result.1) (sum_of right.result.1) (omega arith) left.ensures.value
    right.ensures.value first second in
    let known = decided c.in-Some.answer ahead.left ahead.right (10 ^ here) (sum_of left.result.1) (sum_of right.result.1)
    (sum-below left.result.1 here left.ensures.readable left.ensures.below)
    (sum-below right.result.1 here right.ensures.readable right.ensures.below)
    (λ e. c.in-Some.ensures.less (ap (λ (b : Bool). Some b) e)) (λ e. c.in-Some.ensures.more (ap (λ (b : Bool). Some b) e)) in
    both-ways known (other-way (both-ways old.invariant.same further))

pub loop-place-preserved : goal.loop-place-preserved
loop-place-preserved c =
    let old = c.loop-place in
    let here = c.loop-place.place - 1 in
    let left = c.taken-left_digit in
    let right = c.taken-right_digit in
    let ahead = c.then-ahead.result in
    let next = c.next_place-place in
    let (both, first, second) = c.then-ahead.ensures.same in
    let further = one-further old.ahead.left old.ahead.right left.result.0 right.result.0 both ahead.left ahead.right old.place here
    (sum_of old.left) (sum_of old.right) (sum_of left.result.1) (sum_of right.result.1) (omega arith) left.ensures.value
    right.ensures.value first second in
    let skipped : (ahead.left * 10 ^ here + sum_of left.result.1 ≤ ahead.right * 10 ^ here + sum_of right.result.1)
    ↔ (ahead.left * 10 ^ next.result + sum_of left.result.1 ≤ ahead.right * 10 ^ next.result + sum_of right.result.1) = (
      λ less. omega (arith, less, next.ensures.left, next.ensures.right),
      λ less. omega
          (arith, less, next.ensures.left, next.ensures.right),
    ) in
    record {
      left_sums = left.ensures.readable;
      right_sums = right.ensures.readable;
      left_below = next.ensures.left_below;
      right_below = next.ensures.right_below;
      one = c.then-ahead.ensures.one;
      left_small = c.in_default.ensures.none.0;
      right_small = c.in_default.ensures.none.1;
      same = both-ways old.invariant.same (both-ways further skipped);
    }

pub returns : goal.returns
returns c =
    let old = c.loop-place in
    let last : old.place ≡ 0 = omega arith in
    let left : sum_of old.left ≡ 0 = sum-none old.left (subst (λ (i : ℕ). IsSumBelow old.left i) last old.invariant.left_below) in
    let right : sum_of old.right ≡ 0 = sum-none old.right (subst (λ (i : ℕ). IsSumBelow old.right i) last old.invariant.right_below) in
    both-ways (at-end old.ahead.left old.ahead.right old.place (sum_of old.left) (sum_of old.right) last left right)
    (other-way old.invariant.same)
