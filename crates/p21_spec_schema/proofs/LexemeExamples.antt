-- Lexemes, remarks and runs at small texts.
use Rattle.std.specs.Prelude.{◌≡◌, ℕ, zero, suc, ◌≤◌, Bool, true, false, List, [], ◌∷◌, ◌++◌, codes, refl, take, if◌then◌else◌, ◌==◌}
use Rattle.std.specs.List.{count_by, flat_map, AllByRecursion as Each}
use Rattle.std.proofs.Common.{arith, inl, inr, subst, sym}
use Rattle.p21_spec_schema.specs.Express.{Lexeme, identifier, digits, simple_string, encoded_string, symbol, IsIdentifier, SpellsLexeme, LexemeMayFollow, quote_twice}
use Rattle.p21_spec_schema.specs.ExpressLaying.{LaidLexemes}
use Rattle.p21_spec_schema.specs.EntityDeclaration.{redeclared, attribute_lexemes}
use Rattle.p21_spec_schema.specs.Remark.{Mark, opening_mark, closing_mark, remark_byte, Separator, blank, embedded_remark, tail_remark, mark_bytes, DoesNotBeginWith, IsSeparatorText, IsLastSeparatorText, IsSeparator, separator_bytes}
use Rattle.p21_spec_schema.specs.Run.{IsRun, is_word}
use Rattle.p21_spec_basics.proofs.Members.{head_is, tail_is}

-- `eNd_1` is the identifier END_1, and `_A` is none
small_letters-spelled : SpellsLexeme (identifier (codes "END_1")) (codes "eNd_1")
small_letters-spelled = ((inr (omega arith), (inl (inl (omega arith)), (inl (inr (omega arith)), (inr (inr refl), (inr (inl (omega arith)), tt))))), refl)

underline_first : IsIdentifier (codes "_A") → ⊥
underline_first ((inl h), more) = omega (arith, h)
underline_first ((inr h), more) = omega (arith, h)

-- an apostrophe in a literal is written twice, so `'''` is none
apostrophe-spelled : SpellsLexeme (simple_string (codes "it's")) (codes "'it''s'")
apostrophe-spelled = refl

three_apostrophes : (inside : List ℕ) → SpellsLexeme (simple_string inside) (codes "'''") → ⊥
three_apostrophes [] is = cc
three_apostrophes (x ∷ inside) is = by (x == 39) refl (tail_is 39 39 _ _ is)
  where
    not_empty : (bytes : List ℕ) → [] ≡ bytes ++ (39 ∷ []) → ⊥
    not_empty [] e = cc
    not_empty (y ∷ bytes) e = cc

    by : (b : Bool) → (x == 39) ≡ b → 39 ∷ 39 ∷ [] ≡ (if b then 39 ∷ 39 ∷ [] else x ∷ []) ++ flat_map quote_twice inside ++ (39 ∷ []) → ⊥
    by true b_is e = not_empty (flat_map quote_twice inside) (tail_is 39 39 _ _ (tail_is 39 39 _ _ e))
    by false b_is e = let h : x ≡ 39 = sym (head_is 39 x _ _ e) in let k : (39 == 39) ≡ false = rw h at b_is in cc

-- what stands between quotation marks isn't looked at
encoded-spelled : SpellsLexeme (encoded_string (codes "z9")) (codes "\"z9\"")
encoded-spelled = (refl, (λ e. omega (arith, e), (λ e. omega (arith, e), tt)))

-- the byte 80 in hexadecimal is no lexeme and no blank; 00 and 7F are blanks
high_byte : (lexeme : Lexeme) → SpellsLexeme lexeme (128 ∷ []) → ⊥
high_byte (identifier name) ((inl h, more), is) = omega (arith, h)
high_byte (identifier name) ((inr h, more), is) = omega (arith, h)
high_byte (digits []) (is, some, are) = omega (arith, some)
high_byte (digits (d ∷ ds)) (is, some, are) = let h = head_is 128 d _ _ is in omega (arith, h, are.0)
high_byte (simple_string inside) is = let h = head_is 128 39 _ _ is in omega (arith, h)
high_byte (encoded_string inside) (is, are) = let h = head_is 128 34 _ _ is in omega (arith, h)
high_byte (symbol byte) (is, low, high, no_letter, no_digit, no_apostrophe, no_quote) = let h = head_is 128 byte _ _ is in omega (arith, h, high)

high_blank : IsSeparator (blank 128) → ⊥
high_blank (inl h) = omega (arith, h)
high_blank (inr h) = omega (arith, h)

zero-is_blank : IsSeparator (blank 0)
zero-is_blank = inl (omega arith)

delete-is_blank : IsSeparator (blank 127)
delete-is_blank = inr refl

-- `1e5` is digits and an identifier
touching-laid : LaidLexemes (digits (codes "1") ∷ identifier (codes "E5") ∷ []) (codes "1e5")
touching-laid = ([], codes "1", codes "e5", refl, ([], tt, refl), (refl, omega arith, (omega arith, tt)), λ h. omega (arith, h), ([], codes "e5", [], refl, ([], tt, refl), ((inr (omega arith), (inr (inl (omega arith)), tt)), refl), tt, inl ([], tt, refl)))

-- what may not stand behind a lexeme
underline_behind : (name : List ℕ) → LexemeMayFollow (identifier name) 95 → ⊥
underline_behind name may = may (inr (inr refl))

digit_behind : (ds : List ℕ) → LexemeMayFollow (digits ds) 48 → ⊥
digit_behind ds may = may (omega arith)

apostrophe_behind : (inside : List ℕ) → LexemeMayFollow (simple_string inside) 39 → ⊥
apostrophe_behind inside may = may refl

star_behind : LexemeMayFollow (symbol 40) 42 → ⊥
star_behind may = may.0 refl refl

hyphen_behind : LexemeMayFollow (symbol 45) 45 → ⊥
hyphen_behind may = may.1 refl refl

-- `(* a (* b *) c *)` is one remark, since remarks nest
abbrev nested : Separator
nested = embedded_remark (remark_byte 97 ∷ opening_mark ∷ remark_byte 98 ∷ closing_mark ∷ remark_byte 99 ∷ closing_mark ∷ [])

pub nested-is_remark : IsSeparator nested
nested-is_remark = ((λ h. omega (arith, h), λ h. omega (arith, h), (λ h. omega (arith, h), λ h. omega (arith, h), (λ h. omega (arith, h), λ h. omega (arith, h), tt))), refl)

pub nested-bytes : IsSeparatorText (codes "(*a(*b*)c*)")
nested-bytes = (nested ∷ [], (nested-is_remark, tt), refl)

-- `(*)` alone is no separator: the remark is not closed
pub half_remark : (marks : List Mark) → separator_bytes (embedded_remark marks) ≡ codes "(*)" → IsSeparator (embedded_remark marks) → ⊥
half_remark [] is gap_is = gap_is.1
half_remark (opening_mark ∷ marks) is gap_is = cc
half_remark (closing_mark ∷ marks) is gap_is = cc
half_remark (remark_byte byte ∷ []) is gap_is = gap_is.1
half_remark (remark_byte byte ∷ opening_mark ∷ marks) is gap_is = cc
half_remark (remark_byte byte ∷ closing_mark ∷ marks) is gap_is = cc
half_remark (remark_byte byte ∷ remark_byte next ∷ marks) is gap_is = cc

-- `(*(*)*)*)` is one remark: marks are taken from left to right, so `(*)` in it opens; in `(***)` one `*` is plain
left_to_right : IsSeparatorText (codes "(*(*)*)*)")
left_to_right = (embedded_remark (opening_mark ∷ remark_byte 41 ∷ closing_mark ∷ closing_mark ∷ []) ∷ [], (((λ h. absurd (omega (arith, h)), λ h. absurd (omega (arith, h)), tt), refl), tt), refl)

three_stars : IsSeparatorText (codes "(***)")
three_stars = (embedded_remark (remark_byte 42 ∷ closing_mark ∷ []) ∷ [], (((λ h. absurd (omega (arith, h)), λ h e. omega (arith, e), tt), refl), tt), refl)

-- `(*(*)` is open, since its second `(*` is a mark, and `(**)*)` is more than one remark, since its first `*)` is
second_opens : (marks : List Mark) → separator_bytes (embedded_remark marks) ≡ codes "(*(*)" → IsSeparator (embedded_remark marks) → ⊥
second_opens [] is gap_is = gap_is.1
second_opens (opening_mark ∷ []) is gap_is = gap_is.1
second_opens (opening_mark ∷ opening_mark ∷ marks) is gap_is = cc
second_opens (opening_mark ∷ closing_mark ∷ marks) is gap_is = cc
second_opens (opening_mark ∷ remark_byte byte ∷ []) is gap_is = gap_is.1
second_opens (opening_mark ∷ remark_byte byte ∷ opening_mark ∷ marks) is gap_is = cc
second_opens (opening_mark ∷ remark_byte byte ∷ closing_mark ∷ marks) is gap_is = cc
second_opens (opening_mark ∷ remark_byte byte ∷ remark_byte next ∷ marks) is gap_is = cc
second_opens (closing_mark ∷ marks) is gap_is = let h = head_is 42 40 _ _ (tail_is 42 42 _ _ (tail_is 40 40 _ _ is)) in omega (arith, h)
second_opens (remark_byte byte ∷ marks) is gap_is =
    let tail = tail_is 42 42 _ _ (tail_is 40 40 _ _ is) in
    let h : byte ≡ 40 = head_is byte 40 _ _ tail in
    let more : flat_map mark_bytes marks ≡ codes "*)" = tail_is byte 40 _ _ tail in
    let P : List ℕ → Type 0 = λ bytes. DoesNotBeginWith 42 bytes in
    subst P more (gap_is.0.0 h) refl

first_closes : (marks : List Mark) → separator_bytes (embedded_remark marks) ≡ codes "(**)*)" → IsSeparator (embedded_remark marks) → ⊥
first_closes [] is gap_is = gap_is.1
first_closes (opening_mark ∷ marks) is gap_is = let h = head_is 40 42 _ _ (tail_is 42 42 _ _ (tail_is 40 40 _ _ is)) in omega (arith, h)
first_closes (closing_mark ∷ []) is gap_is = cc
first_closes (closing_mark ∷ mark ∷ marks) is gap_is = let h : mark ∷ marks ≡ [] = gap_is.1 in cc
first_closes (remark_byte byte ∷ marks) is gap_is =
    let tail = tail_is 42 42 _ _ (tail_is 40 40 _ _ is) in
    let h : byte ≡ 42 = head_is byte 42 _ _ tail in
    let more : flat_map mark_bytes marks ≡ codes ")*)" = tail_is byte 42 _ _ tail in
    let P : List ℕ → Type 0 = λ bytes. DoesNotBeginWith 41 bytes in
    subst P more (gap_is.0.1 h) refl

-- marks and apostrophes in a tail remark are plain; its line ends, or the text does
tail-is_separator : IsSeparatorText (codes "--'(*" ++ 10 ∷ [])
tail-is_separator = (tail_remark (codes "'(*") ∷ [], ((λ e. omega (arith, e), (λ e. omega (arith, e), (λ e. omega (arith, e), tt))), tt), refl)

tail-ends_text : IsLastSeparatorText (codes "--")
tail-ends_text = inr ([], [], refl, ([], tt, refl), tt)

open_line : IsSeparatorText (codes "--") → ⊥
open_line (separators, are, bytes_are) = by separators are bytes_are
  where
    by : (separators : List Separator) → Each IsSeparator separators → codes "--" ≡ flat_map separator_bytes separators → ⊥
    by [] are e = cc
    by (blank byte ∷ separators) ((inl low), more) e = let h = head_is 45 byte _ _ e in omega (arith, low, h)
    by (blank byte ∷ separators) ((inr delete), more) e = let h = head_is 45 byte _ _ e in omega (arith, delete, h)
    by (embedded_remark marks ∷ separators) are e = let h = head_is 45 40 _ _ e in omega (arith, h)
    by (tail_remark [] ∷ separators) are e = cc
    by (tail_remark (byte ∷ line) ∷ separators) are e = cc

-- within `FUNCTION f; FUNCTION g; END_FUNCTION; END_FUNCTION;` the inner pair is part of the run, and an END_FUNCTION that comes first isn't
pub inner_function-is_run : IsRun (is_word (codes "FUNCTION")) (is_word (codes "END_FUNCTION")) (identifier (codes "FUNCTION") ∷ identifier (codes "END_FUNCTION") ∷ [])
inner_function-is_run = (each, refl)
  where
    each : (k : ℕ) → count_by (is_word (codes "END_FUNCTION")) (take k (identifier (codes "FUNCTION") ∷ identifier (codes "END_FUNCTION") ∷ [])) ≤ count_by (is_word (codes "FUNCTION")) (take k (identifier (codes "FUNCTION") ∷ identifier (codes "END_FUNCTION") ∷ []))
    each zero = omega arith
    each (suc zero) = omega arith
    each (suc (suc zero)) = omega arith
    each (suc (suc (suc k))) = omega arith

pub end_first-is_no_run : IsRun (is_word (codes "FUNCTION")) (is_word (codes "END_FUNCTION")) (identifier (codes "END_FUNCTION") ∷ identifier (codes "FUNCTION") ∷ []) → ⊥
end_first-is_no_run run = omega (arith, run.0 1)

-- `SELF\r.k` has five lexemes
self_lexemes : attribute_lexemes (redeclared (codes "R") (codes "K")) ≡ identifier (codes "SELF") ∷ symbol 92 ∷ identifier (codes "R") ∷ symbol 46 ∷ identifier (codes "K") ∷ []
self_lexemes = refl
