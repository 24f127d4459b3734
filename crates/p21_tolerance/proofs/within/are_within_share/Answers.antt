use Rattle.std.proofs.Common.{inl, inr}
use Rattle.p21_tolerance.specs.Numbers.{number_in}
use Rattle.p21_tolerance.proofs.SameNumbers.{number-positive, shares-numbers}
use Rattle.p21_tolerance.proofs.within.are_within_share.Goals as goal

pub returns-then-are_digits_within_share : goal.returns-then-are_digits_within_share
returns-then-are_digits_within_share c p q first second =
    let same = shares-numbers c.in-Some.first c.in-Some-number.second c.args.tolerance (number_in p) (number_in q) (number-positive p)
    (number-positive q) (c.in-Some.ensures p first) (c.in-Some-number.ensures q second) in
    let near = c.are_digits_within_share.ensures in
    (λ is. same.0 (inl (near.0 is)), λ _. c.if-are_digits_within_share.true)

pub returns-else-are_digits_within_share : goal.returns-else-are_digits_within_share
returns-else-are_digits_within_share c p q first second =
    let same = shares-numbers c.in-Some.first c.in-Some-number.second c.args.tolerance (number_in p) (number_in q) (number-positive p)
    (number-positive q) (c.in-Some.ensures p first) (c.in-Some-number.ensures q second) in
    let near = c.are_digits_within_share.ensures in
    let not = c.if-are_digits_within_share.false in
    let other = c.are_digits_within_share-else-are_digits_within_share.ensures in (
      λ is. same.0 (inr (other.0 is)),
      λ share. elim (same.1 share) [ inl h ↦ (let yes = near.1 h in cc) | inr h ↦ other.1 h ],
    )
