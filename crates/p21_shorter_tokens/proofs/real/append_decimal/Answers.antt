use Rattle.std.proofs.Common.{◌≡◌, ◌-◌, ◌+◌, ℕ, ℤ, pos, ◌+ℤ◌, ◌-ℤ◌, true, List, [], ◌++◌, subst, to_z, of_z, length, take, drop, refl, arith}
use Rattle.std.proofs.lemmas.Int.{ints}
use mir.Syntax.{w32}
use Rattle.p21_shorter_tokens.proofs.RealTokens.{tail_digits, tail_first, with_fraction, with_whole, with_zeros}
use Rattle.p21_shorter_tokens.specs.Numbers.{AppendsNormalised}
use Rattle.p21_shorter_tokens.proofs.real.append_decimal.Goals as goal

pub append_normalised-requires-clause-first : goal.append_normalised-requires-clause-first
append_normalised-requires-clause-first c = tail_digits c.args.whole.bytes.now _ c.args.whole.count c.leading_zeros-zeros.result c.requires.whole c.leading_zeros-zeros.ensures c.if-zeros-whole.true refl

pub append_normalised-requires-clause-no_zero : goal.append_normalised-requires-clause-no_zero
append_normalised-requires-clause-no_zero c = tail_first c.args.whole.bytes.now _ c.args.whole.count c.leading_zeros-zeros.result c.requires.whole c.leading_zeros-zeros.ensures c.if-zeros-whole.true refl

pub returns-then-zeros-whole : goal.returns-then-zeros-whole
returns-then-zeros-whole c =
    let whole = c.args.whole in
    let fraction = c.args.fraction in
    let zeros = c.leading_zeros-zeros.result in
    let k : ℤ = c.args.exponent +ℤ pos (whole.count - zeros - 1) in
    let tail : List ℕ = take (length whole.bytes.now - zeros) (drop zeros whole.bytes.now) in
    let back : to_z w32 (of_z w32 (to_z w32 (of_z w32 c.args.exponent) +ℤ to_z w32 (whole.count - zeros - 1))) ≡ k = omega (arith, ints, c.requires.small, c.requires.short.0) in
    let written = subst (λ (z : ℤ). AppendsNormalised c.append_normalised.result c.args.negative (take (whole.count - zeros) tail ++ take fraction.count fraction.bytes.now) z c.args.draft.now c.append_normalised.new.draft) back c.append_normalised.ensures in
    with_whole c.args.negative whole.bytes.now fraction.bytes.now whole.count fraction.count zeros c.args.exponent k c.args.draft.now c.append_normalised.new.draft c.append_normalised.result c.requires.whole c.requires.fraction c.leading_zeros-zeros.ensures
    tail refl c.if-zeros-whole.true refl written

pub append_normalised-requires-then-zeros-fraction-clause-first : goal.append_normalised-requires-then-zeros-fraction-clause-first
append_normalised-requires-then-zeros-fraction-clause-first c = tail_digits c.args.fraction.bytes.now _ c.args.fraction.count c.leading_zeros-zeros-2.result c.requires.fraction c.leading_zeros-zeros-2.ensures c.if-zeros-fraction.true refl

pub append_normalised-requires-then-zeros-fraction-clause-no_zero : goal.append_normalised-requires-then-zeros-fraction-clause-no_zero
append_normalised-requires-then-zeros-fraction-clause-no_zero c = tail_first c.args.fraction.bytes.now _ c.args.fraction.count c.leading_zeros-zeros-2.result c.requires.fraction c.leading_zeros-zeros-2.ensures c.if-zeros-fraction.true refl

pub returns-then-zeros-fraction : goal.returns-then-zeros-fraction
returns-then-zeros-fraction c =
    let whole = c.args.whole in
    let fraction = c.args.fraction in
    let zeros = c.leading_zeros-zeros-2.result in
    let k : ℤ = c.args.exponent -ℤ pos (zeros + 1) in
    let tail : List ℕ = take (length fraction.bytes.now - zeros) (drop zeros fraction.bytes.now) in
    let call = c.append_normalised-then-zeros-fraction in
    let back : to_z w32 (of_z w32 (to_z w32 (of_z w32 c.args.exponent) -ℤ to_z w32 (zeros + 1))) ≡ k = omega (arith, ints, c.requires.small, c.requires.short.1) in
    let written = subst (λ (z : ℤ). AppendsNormalised call.result c.args.negative (take (fraction.count - zeros) tail ++ []) z c.args.draft.now call.new.draft) back call.ensures in
    with_fraction c.args.negative whole.bytes.now fraction.bytes.now whole.count fraction.count c.leading_zeros-zeros.result c.args.exponent k c.args.draft.now call.new.draft call.result c.requires.whole c.requires.fraction c.leading_zeros-zeros.ensures
    zeros c.if-zeros-whole.false c.leading_zeros-zeros-2.ensures tail refl c.if-zeros-fraction.true refl written

pub returns : goal.returns
returns c =
    let whole = c.args.whole in
    let fraction = c.args.fraction in
    with_zeros c.args.negative whole.bytes.now fraction.bytes.now whole.count fraction.count c.leading_zeros-zeros.result c.args.exponent (pos 0) c.args.draft.now c.append.new.self true c.requires.whole c.requires.fraction c.leading_zeros-zeros.ensures
    c.leading_zeros-zeros-2.result c.if-zeros-whole.false c.leading_zeros-zeros-2.ensures c.append.result c.if-zeros-fraction.false c.append.ensures
