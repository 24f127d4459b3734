use Rattle.std.proofs.Common.{◌≡◌, ℕ, List, [], ◌∷◌, length, refl, ap, arith}
use Rattle.std.proofs.lemmas.Bool.Decides.{nat_tests}
use Rattle.p21_scan.proofs.Numbers.{no_whole, whole_integer}
use Rattle.p21_spec_exchange.specs.Number.{exponent}
use Rattle.p21_tolerance.proofs.Spellings.{exponent-there, integer-none, integer-some}
use Rattle.p21_tolerance.proofs.tolerance.integer_of.Goals as goal

nothing : (xs : List ℕ) → length xs ≡ 0 → xs ≡ []
nothing [] none = refl
nothing (x ∷ xs) none = absurd (omega arith)

pub returns-in_default-clause-none : goal.returns-in_default-clause-none
returns-in_default-clause-none c value spells small = no_whole c.args.bytes.now value c.in_default.ensures.none spells

pub returns-then-not-is_empty-clause-none : goal.returns-then-not-is_empty-clause-none
returns-then-not-is_empty-clause-none c value spells small =
    let none = ap length (whole_integer c.args.bytes.now c.in-Some.integer.digits.now c.in-Some.rest.now c.in-Some.integer.negative value
    c.in-Some.ensures.some spells) in
    let empty = c.is_empty.ensures in
    let not = c.if-not-is_empty.true in
    grind (arith, nat_tests)

pub exponent_value-requires : goal.exponent_value-requires
exponent_value-requires c = exponent-there c.args.bytes.now c.in-Some.rest.now c.in-Some.integer c.in-Some.ensures.some

pub returns-clause-some : goal.returns-clause-some
returns-clause-some c =
    let at = c.in-Some.ensures.some in
    let empty = c.is_empty.ensures in
    let is = c.if-not-is_empty.false in
    let none : length c.in-Some.rest.now ≡ 0 = grind (arith, nat_tests) in
    integer-some c.args.bytes.now c.in-Some.rest.now c.in-Some.integer c.exponent_value.result at (nothing c.in-Some.rest.now none)
    (c.exponent_value.ensures.value (exponent at.sign c.in-Some.integer.digits.now) (at.sign, refl, at.negative_is))

pub returns-clause-none : goal.returns-clause-none
returns-clause-none c =
    let at = c.in-Some.ensures.some in
    integer-none c.args.bytes.now c.in-Some.rest.now c.in-Some.integer c.exponent_value.result at
    (c.exponent_value.ensures.value (exponent at.sign c.in-Some.integer.digits.now) (at.sign, refl, at.negative_is))
