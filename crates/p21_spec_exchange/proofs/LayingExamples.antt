-- Separators and tokens laid in bytes, and what may not stand behind a token.
use Rattle.std.proofs.Common.{◌≡◌, ◌≢◌, ℕ, ◌+◌, ◌-◌, ◌*◌, ◌^◌, ◌≤◌, ℤ, pos, negsuc, List, [], ◌∷◌, ◌++◌, refl, sym, arith, lit<, lit≤, inl, inr}
use lib.Signed.{le_z_yes}
use Rattle.std.specs.Prelude.{codes}
use Rattle.std.specs.List.{flat_map, AllByRecursion as Each}
use Rattle.p21_spec_exchange.specs.Number.{Decimal, RealForm, SpellsReal, SpellsWhole, exponent, minus, no_exponent, none, real_ratio}
use Rattle.p21_spec_exchange.specs.Keyword.{IsKeywordByte}
use Rattle.p21_spec_exchange.specs.Laying.{AreStatementsWithin, HoldsScalar, LaidAs, Lexeme}
use Rattle.p21_spec_exchange.specs.Name.{SpellsName}
use Rattle.p21_spec_exchange.specs.Separator.{IsCommentText, IsSeparator, IsSeparatorText, Separator, blank, comment, separator_bytes}
use Rattle.p21_spec_exchange.specs.Token.{HasNoExponent, MayFollow, Token, begin, item, keyword, name, real, semicolon, user_keyword, whole}
use Rattle.p21_spec_exchange.proofs.Exponents.{in_range_by}
use Rattle.p21_spec_exchange.proofs.Forms.{same_form}
use Rattle.p21_spec_basics.proofs.Members.{head_is, tail_is}
use Rattle.p21_spec_exchange.proofs.Laying.{keyword_by, lay}

-- a comment ends with its first `*/`
not_nested : IsCommentText (codes " */ ") → ⊥
not_nested h = let e : codes " */" ≡ [] = h (codes " ") (codes " */") refl in (cc)

star_no_slash : ◌≢◌ {A = ℕ} 42 47
star_no_slash e = omega (arith, e)

-- `/***/` is a comment
star_within : IsSeparatorText (codes "/***/")
star_within = (comment (42 ∷ []) ∷ [], (once, tt), refl)
  where
    once : IsCommentText (42 ∷ [])
    once [] after e = absurd (star_no_slash (head_is 42 47 _ _ (tail_is 42 42 _ _ e)))
    once (x ∷ []) after e = sym (tail_is 47 47 _ _ (tail_is 42 42 _ _ (tail_is 42 x _ _ e)))
    once (x ∷ y ∷ []) after e = absurd (star_no_slash (sym (head_is 47 42 _ _ (tail_is 42 y _ _ (tail_is 42 x _ _ e)))))
    once (x ∷ y ∷ z ∷ []) after e = cc
    once (x ∷ y ∷ z ∷ w ∷ before) after e = cc

-- `/*/` is no comment: no byte belongs to both of its ends
one_star : IsSeparatorText (codes "/*/") → ⊥
one_star (separators, are, bytes_are) = by separators are bytes_are
  where
    inside_is : (inside rest : List ℕ) → 47 ∷ [] ≡ (inside ++ (42 ∷ 47 ∷ [])) ++ rest → ⊥
    inside_is [] rest e = let h = head_is 47 42 _ _ e in omega (arith, h)
    inside_is (x ∷ []) rest e = cc
    inside_is (x ∷ y ∷ inside) rest e = cc

    by : (separators : List Separator) → Each IsSeparator separators → codes "/*/" ≡ flat_map separator_bytes separators → ⊥
    by [] are e = cc
    by (blank byte ∷ separators) ((inl low), more) e = let h = head_is 47 byte _ _ e in omega (arith, low, h)
    by (blank byte ∷ separators) ((inr delete), more) e = let h = head_is 47 byte _ _ e in omega (arith, delete, h)
    by (comment inside ∷ separators) are e = inside_is inside (flat_map separator_bytes separators) (tail_is 42 42 _ _ (tail_is 47 47 _ _ e))

-- a print control directive is no separator
print_control : IsSeparatorText (codes "\\N\\") → ⊥
print_control (separators, are, bytes_are) = by separators are bytes_are
  where
    by : (separators : List Separator) → Each IsSeparator separators → codes "\\N\\" ≡ flat_map separator_bytes separators → ⊥
    by [] are e = cc
    by (blank byte ∷ separators) ((inl low), more) e = let h = head_is 92 byte _ _ e in omega (arith, low, h)
    by (blank byte ∷ separators) ((inr delete), more) e = let h = head_is 92 byte _ _ e in omega (arith, delete, h)
    by (comment inside ∷ separators) are e = let h = head_is 92 47 _ _ e in omega (arith, h)

-- a keyword is not followed by `-`
keyword_dash : (word spelling : List ℕ) → MayFollow (keyword word) spelling 45 → ⊥
keyword_dash word spelling (no_keyword_byte, differs) = differs refl

user_keyword_dash : (word spelling : List ℕ) → MayFollow (user_keyword word) spelling 45 → ⊥
user_keyword_dash word spelling (no_keyword_byte, differs) = differs refl

-- an integer is not followed by a point, and a name not by a digit
whole_point : (z : ℤ) (spelling : List ℕ) → MayFollow (whole z) spelling 46 → ⊥
whole_point z spelling (no_digit, differs) = differs refl

name_digit : (n : ℕ) (spelling : List ℕ) → MayFollow (name n) spelling 48 → ⊥
name_digit n spelling no_digit = no_digit (lit≤ tt, lit≤ tt)

-- `1.`
abbrev pub one : Decimal
one = record { significand = pos 1; exponent = pos 0 }

abbrev one-form : RealForm (codes "1.")
one-form = record { sign = none; whole = codes "1"; fraction = []; power = no_exponent; bytes_are = refl; some_digits = lit< tt; are_digits = ((lit≤ tt, lit≤ tt), tt); are_fraction_digits = tt; is_exponent = tt }

pub one-spelled : SpellsReal (codes "1.") one
one-spelled =
    record {
      form = one-form;
      is_short = tt;
      in_range = in_range_by (real_ratio one-form) (pos 0) (lit< tt) (record { low = lit≤ tt; high = lit< tt }) (le_z_yes tt, le_z_yes tt);
      is_reduced = λ e. cc;
      same = refl;
    }

-- `1.5E3E` is a real and a keyword
fifteen_hundred : Decimal
fifteen_hundred = record { significand = pos 15; exponent = pos 2 }

fifteen_hundred-form : RealForm (codes "1.5E3")
fifteen_hundred-form =
    record {
      sign = none;
      whole = codes "1";
      fraction = codes "5";
      power = exponent none (codes "3");
      bytes_are = refl;
      some_digits = lit< tt;
      are_digits = ((lit≤ tt, lit≤ tt), tt);
      are_fraction_digits = ((lit≤ tt, lit≤ tt), tt);
      is_exponent = (lit< tt, ((lit≤ tt, lit≤ tt), tt));
    }

fifteen_hundred-spelled : SpellsReal (codes "1.5E3") fifteen_hundred
unfolding fifteen_hundred fifteen_hundred-form
fifteen_hundred-spelled =
    record {
      form = fifteen_hundred-form;
      is_short = lit< tt;
      in_range = in_range_by (real_ratio fifteen_hundred-form) (pos 3) (lit< tt) (record { low = lit≤ tt; high = lit< tt }) (le_z_yes tt, le_z_yes tt);
      is_reduced = λ e. cc;
      same = refl;
    }

has_power : HasNoExponent (codes "1.5E3") → ⊥
unfolding fifteen_hundred-form
has_power (form, none_is) = let same = (same_form (codes "1.5E3") form fifteen_hundred-form).power in cc

no_end : LaidAs [] []
no_end = ([], tt, refl)

abbrev last : Token → ℕ → List Lexeme
last token size = record { token = token; size = size } ∷ []

real_and_keyword-laid : LaidAs (codes "1.5E3E") (record { token = real fifteen_hundred; size = 5 } ∷ last (keyword (codes "E")) 1)
real_and_keyword-laid =
    lay (real fifteen_hundred) (codes "1.5E3") (codes "E") (last (keyword (codes "E")) 1) fifteen_hundred-spelled (λ digit. omega (arith, digit), λ h. absurd (has_power h))
    (lay (keyword (codes "E")) (codes "E") [] [] (refl, keyword_by (codes "E") tt) tt no_end)

-- `1..T.` is a real and an item
real_and_item-laid : LaidAs (codes "1..T.") (record { token = real one; size = 2 } ∷ last (item (codes "T")) 3)
real_and_item-laid =
    lay (real one) (codes "1.") (codes ".T.") (last (item (codes "T")) 3) one-spelled (λ digit. omega (arith, digit), λ h e. omega (arith, e))
    (lay (item (codes "T")) (codes ".T.") [] [] (refl, keyword_by (codes "T") tt) tt no_end)

-- `ISO-10303-21` may be followed by `-`
minus_one : SpellsWhole (codes "-1") (negsuc 0)
minus_one = record { sign = minus; digits = codes "1"; bytes_are = refl; some_digits = lit< tt; are_digits = ((lit≤ tt, lit≤ tt), tt); value_is = refl }

no_keyword_dash : IsKeywordByte 45 → ⊥
no_keyword_dash (inl (inl h)) = omega (arith, h)
no_keyword_dash (inl (inr h)) = omega (arith, h)
no_keyword_dash (inr h) = omega (arith, h)

begin_and_whole-laid : LaidAs (codes "ISO-10303-21-1") (record { token = begin; size = 12 } ∷ last (whole (negsuc 0)) 2)
begin_and_whole-laid = lay begin (codes "ISO-10303-21") (codes "-1") (last (whole (negsuc 0)) 2) refl no_keyword_dash (lay (whole (negsuc 0)) (codes "-1") [] [] minus_one tt no_end)

-- `12 /**/34;` has ten bytes, of which five are of tokens: what stands between tokens does not count
digits_two : (a b : ℕ) → 48 ≤ a → a ≤ 57 → 48 ≤ b → b ≤ 57 → SpellsWhole (a ∷ b ∷ []) (pos ((a - 48) * 10 ^ 1 + ((b - 48) * 10 ^ 0 + 0)))
digits_two a b p q r s = record { sign = none; digits = a ∷ b ∷ []; bytes_are = refl; some_digits = lit< tt; are_digits = ((p, q), ((r, s), tt)); value_is = refl }

abbrev behind_gap : List Lexeme
behind_gap = record { token = whole (pos 34); size = 2 } ∷ last semicolon 1

abbrev two_wholes : List Lexeme
two_wholes = record { token = whole (pos 12); size = 2 } ∷ behind_gap

empty_comment : IsCommentText []
empty_comment [] after e = sym (tail_is 47 47 _ _ (tail_is 42 42 _ _ e))
empty_comment (x ∷ []) after e = absurd (star_no_slash (sym (head_is 47 42 _ _ (tail_is 42 x _ _ e))))
empty_comment (x ∷ y ∷ []) after e = cc
empty_comment (x ∷ y ∷ z ∷ before) after e = cc

gap : IsSeparatorText (codes " /**/")
gap = (blank 32 ∷ comment [] ∷ [], (inl (lit≤ tt), (empty_comment, tt)), refl)

two_wholes-laid : LaidAs (codes "12 /**/34;") two_wholes
two_wholes-laid =
    lay (whole (pos 12)) (codes "12") (codes " /**/34;") behind_gap (digits_two 49 50 (lit≤ tt) (lit≤ tt) (lit≤ tt) (lit≤ tt)) (λ digit. omega (arith, digit), λ e. omega (arith, e)) (
      codes " /**/",
      codes "34",
      codes ";",
      refl,
      gap,
      digits_two 51 52 (lit≤ tt) (lit≤ tt) (lit≤ tt) (lit≤ tt),
      refl,
      (λ digit. omega (arith, digit), λ e. omega (arith, e)),
      lay semicolon (codes ";") [] [] refl tt no_end,
    )

two_wholes-within : AreStatementsWithin 5 0 two_wholes
two_wholes-within = (lit≤ tt, (lit≤ tt, (lit≤ tt, tt)))

two_wholes-beyond : AreStatementsWithin 4 0 two_wholes → ⊥
two_wholes-beyond within = let last = within.1.1.0 in omega (arith, last)

-- ` #7 ` is one scalar parameter between separators
seven-spelled : SpellsName (codes "#7") 7
seven-spelled = record { form = record { digits = codes "7"; bytes_are = refl; some_digits = lit< tt; are_digits = ((lit≤ tt, lit≤ tt), tt) }; value_is = refl; in_range = lit< tt }

one_space : IsSeparatorText (codes " ")
one_space = (blank 32 ∷ [], (inl (lit≤ tt), tt), refl)

one_scalar : HoldsScalar (codes " #7 ") (name 7)
one_scalar = (tt, record { lexemes = last (name 7) 2; tokens_are = refl; laid = (codes " ", codes "#7", codes " ", refl, one_space, seven-spelled, refl, (λ digit. omega (arith, digit)), one_space) })

keyword_is_no_scalar : (word bytes : List ℕ) → HoldsScalar bytes (keyword word) → ⊥
keyword_is_no_scalar word bytes holds = holds.0
