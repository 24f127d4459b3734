use Rattle.std.proofs.Common.{◌+◌, ◌++◌, length, ap, ◌∙◌, arith}
use Rattle.p21_tolerance.proofs.DigitsLeft.{behind-none, first-taken}
use Rattle.p21_tolerance.proofs.places.Places.taken.Goals as goal

pub returns-in-Some-clause-value : goal.returns-in-Some-clause-value
returns-in-Some-clause-value c =
    let fraction = c.args.self.fraction.now in
    let all = c.args.self.whole.now ++ fraction in
    first-taken all (c.in-Some.whole.now ++ fraction) c.in-Some.first.now c.digit_of.result c.args.self.behind c.args.place c.top.result
    (ap (λ xs. xs ++ fraction) c.in-Some.ensures.cases.0) c.digit_of.ensures c.if-top-place.false
    (c.top.ensures.least (c.args.place + 1) c.requires.below) (c.top.ensures.least (c.args.self.behind + length all) (λ _. omega arith))
    c.top.ensures.above

pub returns-in-Some-split_first-clause-value : goal.returns-in-Some-split_first-clause-value
returns-in-Some-split_first-clause-value c =
    let found = c.in-Some-split_first in
    let all = c.args.self.whole.now ++ c.args.self.fraction.now in
    first-taken all found.fraction.now found.first.now c.digit_of-in-Some-split_first.result c.args.self.behind c.args.place c.top.result
    (behind-none c.args.self.whole.now c.args.self.fraction.now c.in_default.ensures.cases ∙ found.ensures.cases.0)
    c.digit_of-in-Some-split_first.ensures c.if-top-place.false (c.top.ensures.least (c.args.place + 1) c.requires.below)
    (c.top.ensures.least (c.args.self.behind + length all) (λ _. omega arith)) c.top.ensures.above
