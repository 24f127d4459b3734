use Rattle.std.specs.Prelude.{◌≡◌, true, length, not, nat_eq}
use Rattle.std.specs.List.{range_with_len}
use Rattle.std.proofs.Common.{arith, rules, ap, sym}
use Rattle.std.proofs.lemmas.Bool.Decides.{nat_tests}
use Rattle.p21_spec_numbering.specs.Graph.{how_many}
use Rattle.p21_numbering.specs.Arrays.{marked}
use Rattle.p21_numbering.proofs.Counts.{Contains-range, range-below, none-counted, some-counted}
use Rattle.p21_numbering.proofs.ending.is_any_fresh.Goals as goal

pub returns-then-one : goal.returns-then-one
returns-then-one c =
    let waiting : marked c.args.fresh.now c.loop-one.one-index ≡ true = search rules in
    let some = some-counted (marked c.args.fresh.now) (range_with_len 0 (length c.args.fresh.now)) c.loop-one.one-index
    (Contains-range (length c.args.fresh.now) c.loop-one.one-index c.loop-one-test.true) waiting in
    grind (arith, nat_tests)

pub returns : goal.returns
returns c =
    let none : how_many (marked c.args.fresh.now) (range_with_len 0 (length c.args.fresh.now)) ≡ 0 =
    none-counted (marked c.args.fresh.now) (range_with_len 0 (length c.args.fresh.now))
    (λ m among. let low = range-below (length c.args.fresh.now) m among in
    c.loop-one.invariant m (omega (arith, low, c.loop-one-test.false))) in
    sym (ap (λ k. not (nat_eq k 0)) none)
