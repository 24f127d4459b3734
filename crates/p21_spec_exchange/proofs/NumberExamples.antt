-- Numbers, spelled and not.
use Rattle.std.proofs.Common.{◌≡◌, ℕ, ◌^◌, ◌&&◌, pos, negsuc, Bool, true, List, [], ◌∷◌, refl, ap, sym, ◌∙◌, ◌<◌, subst, arith, lit<, lit≤}
use Rattle.std.proofs.lemmas.Bool.Decides.{nat_tests}
use lib.Signed.{le_z_yes}
use Rattle.std.specs.Prelude.{codes, nat_le}
use Rattle.std.proofs.lemmas.Bool.{and_parts}
use Rattle.p21_spec_basics.specs.Digits.{AllDigits, number}
use Rattle.p21_spec_exchange.specs.Number.{plus, minus, none, exponent, no_exponent, IsShortExponent, SpellsWhole, Decimal, RealForm, SpellsReal, real_ratio, HasNormalisedExponent}
use Rattle.p21_spec_exchange.specs.Spelling.{real_spelling, whole_spelling, spelling}
use Rattle.p21_spec_exchange.specs.Token.{name}
use Rattle.p21_spec_exchange.specs.Name.{SpellsName}
use Rattle.p21_spec_exchange.proofs.Exponents.{in_range_by, zero_has_none}
use Rattle.p21_spec_exchange.proofs.Forms.{no_sign_first, same_form, sign_once, split_once}
use Rattle.p21_spec_basics.proofs.Members.{tail_is}
use Rattle.p21_spec_basics.proofs.PlainDigits.{plain_digits-number}
use Rattle.p21_spec_exchange.proofs.RealSpellings.{form_ratio_once}

-- digits, by a test of each
abbrev are_digits : List ℕ → Bool
are_digits [] = true
are_digits (c ∷ cs) = nat_le 48 c && (nat_le c 57 && are_digits cs)

tested : (bytes : List ℕ) → are_digits bytes ≡ true → AllDigits bytes
tested [] e = tt
tested (c ∷ cs) e =
    let low = and_parts (nat_le 48 c) (nat_le c 57 && are_digits cs) e in
    let high = and_parts (nat_le c 57) (are_digits cs) low.1 in
    let a = low.0 in
    let b = high.0 in
    ((grind (arith, nat_tests), grind (arith, nat_tests)), tested cs high.1)

-- `+012.500E+03` is 125 * 10 ^ 2, and its canonical spelling is `1.25E4`
twelve_thousand : Decimal
twelve_thousand = record { significand = pos 125; exponent = pos 2 }

twelve_thousand-form : RealForm (codes "+012.500E+03")
twelve_thousand-form =
    record {
      sign = plus;
      whole = codes "012";
      fraction = codes "500";
      power = exponent plus (codes "03");
      bytes_are = refl;
      some_digits = lit< tt;
      are_digits = tested (codes "012") refl;
      are_fraction_digits = tested (codes "500") refl;
      is_exponent = (lit< tt, tested (codes "03") refl);
    }

twelve_thousand-spelled : SpellsReal (codes "+012.500E+03") twelve_thousand
unfolding twelve_thousand twelve_thousand-form
twelve_thousand-spelled =
    record {
      form = twelve_thousand-form;
      is_short = lit< tt;
      in_range = in_range_by (real_ratio twelve_thousand-form) (pos 4) (lit< tt) (record { low = lit≤ tt; high = lit< tt }) (le_z_yes tt, le_z_yes tt);
      is_reduced = λ e. cc;
      same = refl;
    }

twelve_thousand-canonical : real_spelling twelve_thousand ≡ codes "1.25E4"
unfolding twelve_thousand
twelve_thousand-canonical = refl

-- `0.00250` is 25 * 10 ^ -4
quarter_percent : Decimal
quarter_percent = record { significand = pos 25; exponent = negsuc 3 }

quarter_percent-form : RealForm (codes "0.00250")
quarter_percent-form =
    record {
      sign = none;
      whole = codes "0";
      fraction = codes "00250";
      power = no_exponent;
      bytes_are = refl;
      some_digits = lit< tt;
      are_digits = tested (codes "0") refl;
      are_fraction_digits = tested (codes "00250") refl;
      is_exponent = tt;
    }

quarter_percent-spelled : SpellsReal (codes "0.00250") quarter_percent
unfolding quarter_percent quarter_percent-form
quarter_percent-spelled =
    record {
      form = quarter_percent-form;
      is_short = tt;
      in_range = in_range_by (real_ratio quarter_percent-form) (negsuc 2) (lit< tt) (record { low = lit≤ tt; high = lit< tt }) (le_z_yes tt, le_z_yes tt);
      is_reduced = λ e. cc;
      same = refl;
    }

quarter_percent-canonical : real_spelling quarter_percent ≡ codes "2.5E-3"
unfolding quarter_percent
quarter_percent-canonical = refl

-- `1.E9999` is in range
greatest : Decimal
greatest = record { significand = pos 1; exponent = pos 9999 }

greatest-form : RealForm (codes "1.E9999")
greatest-form =
    record {
      sign = none;
      whole = codes "1";
      fraction = codes "";
      power = exponent none (codes "9999");
      bytes_are = refl;
      some_digits = lit< tt;
      are_digits = tested (codes "1") refl;
      are_fraction_digits = tt;
      is_exponent = (lit< tt, tested (codes "9999") refl);
    }

greatest-spelled : SpellsReal (codes "1.E9999") greatest
unfolding greatest greatest-form
greatest-spelled =
    record {
      form = greatest-form;
      is_short = lit< tt;
      in_range = in_range_by (real_ratio greatest-form) (pos 9999) (lit< tt) (record { low = lit≤ tt; high = lit< tt }) (le_z_yes tt, le_z_yes tt);
      is_reduced = λ e. cc;
      same = refl;
    }

greatest-canonical : real_spelling greatest ≡ codes "1.E9999"
unfolding greatest
greatest-canonical = refl

-- `-0.0` is the one zero
negative_zero : Decimal
negative_zero = record { significand = pos 0; exponent = pos 0 }

negative_zero-form : RealForm (codes "-0.0")
negative_zero-form =
    record {
      sign = minus;
      whole = codes "0";
      fraction = codes "0";
      power = no_exponent;
      bytes_are = refl;
      some_digits = lit< tt;
      are_digits = tested (codes "0") refl;
      are_fraction_digits = tested (codes "0") refl;
      is_exponent = tt;
    }

negative_zero-spelled : SpellsReal (codes "-0.0") negative_zero
unfolding negative_zero negative_zero-form
negative_zero-spelled =
    record {
      form = negative_zero-form;
      is_short = tt;
      in_range = λ k h. absurd (zero_has_none (real_ratio negative_zero-form) k refl (lit< tt) h);
      is_reduced = λ e. (refl, refl);
      same = refl;
    }

negative_zero-canonical : real_spelling negative_zero ≡ codes "0."
unfolding negative_zero
negative_zero-canonical = refl

-- `10.E9999` has the form of a real, and its normalised exponent is 10000: no real has this spelling
too_great-form : RealForm (codes "10.E9999")
too_great-form =
    record {
      sign = none;
      whole = codes "10";
      fraction = [];
      power = exponent none (codes "9999");
      bytes_are = refl;
      some_digits = lit< tt;
      are_digits = tested (codes "10") refl;
      are_fraction_digits = tt;
      is_exponent = (lit< tt, tested (codes "9999") refl);
    }

too_great : (value : Decimal) → SpellsReal (codes "10.E9999") value → ⊥
unfolding too_great-form
too_great value spelled =
    let own : HasNormalisedExponent (real_ratio too_great-form) (pos 10000) = record { low = lit≤ tt; high = lit< tt } in
    let found : HasNormalisedExponent (real_ratio spelled.form) (pos 10000) =
    subst (λ r. HasNormalisedExponent r (pos 10000)) (form_ratio_once _ too_great-form spelled.form) own in
    (spelled.in_range (pos 10000) found).1.le

-- `0.E1000000000` has ten digits in its exponent: no real has this spelling, though the number is zero
long_exponent-form : RealForm (codes "0.E1000000000")
long_exponent-form =
    record {
      sign = none;
      whole = codes "0";
      fraction = codes "";
      power = exponent none (codes "1000000000");
      bytes_are = refl;
      some_digits = lit< tt;
      are_digits = tested (codes "0") refl;
      are_fraction_digits = tt;
      is_exponent = (lit< tt, tested (codes "1000000000") refl);
    }

long_exponent : (value : Decimal) → SpellsReal (codes "0.E1000000000") value → ⊥
unfolding long_exponent-form
long_exponent value s =
    let same = (same_form (codes "0.E1000000000") s.form long_exponent-form).power in
    let short : IsShortExponent (exponent none (codes "1000000000")) = subst IsShortExponent same s.is_short in
    omega (arith, short)

-- `1` has no point: it is an integer and no real
one_is_no_real : RealForm (codes "1") → ⊥
one_is_no_real form =
    let signs = sign_once none form.sign (codes "1") _ (λ e. omega arith, λ e. omega arith) (no_sign_first form.whole _ form.some_digits form.are_digits) form.bytes_are in
    let wholes = split_once (codes "1") form.whole [] _ (tested (codes "1") refl) form.are_digits tt (λ d. omega (arith, d)) signs.1 in
    let point = wholes.1 in
    (cc)

-- `+007` is 7, and `-0` is 0
seven : SpellsWhole (codes "+007") (pos 7)
seven = record { sign = plus; digits = codes "007"; bytes_are = refl; some_digits = lit< tt; are_digits = tested (codes "007") refl; value_is = refl }

zero_again : SpellsWhole (codes "-0") (pos 0)
zero_again = record { sign = minus; digits = codes "0"; bytes_are = refl; some_digits = lit< tt; are_digits = tested (codes "0") refl; value_is = refl }

seven-canonical : whole_spelling (pos 7) ≡ codes "7"
seven-canonical = refl

minus_seventy-canonical : whole_spelling (negsuc 69) ≡ codes "-70"
minus_seventy-canonical = refl

-- `#007` is the name 7
name_seven : SpellsName (codes "#007") 7
name_seven = record {
  form = record { digits = codes "007"; bytes_are = refl; some_digits = lit< tt; are_digits = tested (codes "007") refl };
  value_is = refl;
  in_range = lit< tt;
}

name_too_great : (n : ℕ) → SpellsName (codes "#18446744073709551616") n → ⊥
name_too_great n s =
    let same : codes "18446744073709551616" ≡ s.form.digits = tail_is 35 35 _ _ s.form.bytes_are in
    let value : n ≡ 18446744073709551616 = s.value_is ∙ ap number (sym same) in
    let below : n < 18446744073709551616 = s.in_range in
    omega (arith, value, below)

greatest_name-canonical : spelling (name 18446744073709551615) ≡ codes "#18446744073709551615"
greatest_name-canonical = ap (λ (digits : List ℕ). 35 ∷ digits) (plain_digits-number (codes "18446744073709551615") (lit< tt, tested (codes "18446744073709551615") refl))

-- seventy digits, more than a number of 64 bits has
long-canonical : whole_spelling (pos (10 ^ 69)) ≡ codes "1000000000000000000000000000000000000000000000000000000000000000000000"
long-canonical = plain_digits-number (codes "1000000000000000000000000000000000000000000000000000000000000000000000") (lit< tt, tested (codes "1000000000000000000000000000000000000000000000000000000000000000000000") refl)

name_seven-canonical : spelling (name 7) ≡ codes "#7"
name_seven-canonical = refl
