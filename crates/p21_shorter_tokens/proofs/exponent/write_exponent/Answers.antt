use Rattle.std.proofs.Common.{◌≡◌, ◌+◌, ◌/◌, ◌%◌, ℕ, ℤ, pos, ◌<ℤ◌, ◌≤ℤ◌, true, false, List, [], ◌∷◌, ◌++◌, take, nat_abs, if◌then◌else◌, ap, sym, subst, ◌∙◌, arith, to_z, of_z}
use Rattle.std.proofs.lemmas.Int.{ints}
use mir.Syntax.{w32}
use Rattle.p21_shorter_tokens.proofs.ExponentSpellings.{one_digit, two_digits, written_one, written_two}
use Rattle.p21_shorter_tokens.proofs.exponent.write_exponent.Goals as goal

pub returns-then-value-lt10-clause-text : goal.returns-then-value-lt10-clause-text
returns-then-value-lt10-clause-text c =
    let z = c.args.exponent in
    let v = c.unsigned_abs-value.result in
    let back : to_z w32 (of_z w32 z) ≡ z = omega (arith, ints) in
    let value : v ≡ nat_abs z = c.unsigned_abs-value.ensures.value ∙ ap nat_abs back in
    let other : z ≡ pos 0 → ⊥ = λ e. c.if-exponent-eq0.false (ap (of_z w32) e) in
    let minus = c.is_below_zero in
    let below : minus.result ≡ true → z <ℤ pos 0 = λ e. subst (λ (x : ℤ). x <ℤ pos 0) back (minus.ensures.below e) in
    let above : minus.result ≡ false → pos 0 ≤ℤ z = λ e. subst (λ (x : ℤ). pos 0 ≤ℤ x) back (minus.ensures.above e) in
    let mark : List ℕ = if minus.result then 45 ∷ [] else [] in
    let at = c.write_mark-digits.result in
    written_one c.write_mark-digits.new.room at (48 + v) (take c.args.at c.args.room.now) (69 ∷ mark) (omega (arith, c.requires.room, c.write_mark-digits.ensures.few, c.write_mark-digits.ensures.len)) c.write_mark-digits.ensures.text
    ∙ ap (λ (x : List ℕ). take c.args.at c.args.room.now ++ x) (sym (one_digit z minus.result other below above v value c.if-value-lt10.true))

pub returns-clause-text : goal.returns-clause-text
returns-clause-text c =
    let z = c.args.exponent in
    let v = c.unsigned_abs-value.result in
    let back : to_z w32 (of_z w32 z) ≡ z = omega (arith, ints) in
    let value : v ≡ nat_abs z = c.unsigned_abs-value.ensures.value ∙ ap nat_abs back in
    let other : z ≡ pos 0 → ⊥ = λ e. c.if-exponent-eq0.false (ap (of_z w32) e) in
    let minus = c.is_below_zero in
    let below : minus.result ≡ true → z <ℤ pos 0 = λ e. subst (λ (x : ℤ). x <ℤ pos 0) back (minus.ensures.below e) in
    let above : minus.result ≡ false → pos 0 ≤ℤ z = λ e. subst (λ (x : ℤ). pos 0 ≤ℤ x) back (minus.ensures.above e) in
    let mark : List ℕ = if minus.result then 45 ∷ [] else [] in
    let at = c.write_mark-digits.result in
    written_two c.write_mark-digits.new.room at (48 + v / 10) (48 + v % 10) (take c.args.at c.args.room.now) (69 ∷ mark) (omega (arith, c.requires.room, c.write_mark-digits.ensures.few, c.write_mark-digits.ensures.len)) c.write_mark-digits.ensures.text
    ∙ ap (λ (x : List ℕ). take c.args.at c.args.room.now ++ x) (sym (two_digits z minus.result other below above v value (omega arith) (omega (arith, ints, value))))
