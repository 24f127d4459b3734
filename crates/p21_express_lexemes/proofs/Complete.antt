-- What is laid in a text is read.
use Rattle.std.proofs.Common.{◌≡◌, ◌≢◌, ℕ, zero, suc, ◌<◌, true, false, inl, inr, List, [], ◌∷◌, ◌++◌, ◌==◌, map, length, Some, refl, ap, sym, subst, ◌∙◌, append_assoc, append-nil, arith}
use Rattle.std.specs.List.{flat_map, AllByRecursion as Each}
use Rattle.std.proofs.lemmas.Bool.{cases_eq, ne_eqb, and_left, and_right, cases_Bool, eqb-true}
use Rattle.std.proofs.lemmas.Bool.Decides.{nat_tests}
use Rattle.p21_spec_basics.specs.Digits.{IsDigit, AllDigits}
use Rattle.p21_spec_schema.specs.Express.{Lexeme, identifier, digits, simple_string, encoded_string, symbol, IsLetter, IsIdentifierByte, SpellsLexeme, quote_twice, upper}
use Rattle.p21_spec_schema.specs.ExpressLaying.{LexemeIsFollowed, LaidLexemes}
use Rattle.p21_spec_schema.specs.Remark.{Mark, opening_mark, closing_mark, remark_byte, mark_bytes, DoesNotBeginWith, AreMarks, ClosesAtLastMark, Separator, blank, embedded_remark, tail_remark, IsSeparator, separator_bytes, IsSeparatorText, IsLastSeparatorText}
use Rattle.p21_express_lexemes.specs.Bytes.{is_of, begins, begins_of, begins_both, front, behind}
use Rattle.p21_express_lexemes.specs.Skipping.{between, line, remark, skip}
use Rattle.p21_express_lexemes.specs.FirstLexeme.{found, ended, quoted, after, unquote, simple_of, encoded_of, lexeme_of, first_lexeme_within, first_lexeme_of}
use Rattle.p21_express_lexemes.specs.declared.bytes.Class.{Class}
use Rattle.p21_express_lexemes.specs.declared.bytes.Class.TheVariants.{Blank, Digit, IdentifierByte, Encoded}
use Rattle.p21_express_lexemes.proofs.Classes.{blank_is, letter_is, digit_is, identifier_is, encoded_is, no_letter, no_digit, no_identifier, symbol_is, printing_no_blank, letter_prints, digit_no_letter}
use Rattle.p21_express_lexemes.proofs.Lexing.{at_identifier, at_digits, at_simple, at_encoded, at_symbol}
use Rattle.p21_express_lexemes.proofs.Skips.{opens_remark, opens_line, passes_blank, stops, no_mark}

-- ---- separators

pub not_both : (first second b : ℕ) (rest : List ℕ) → b ≢ first → begins_both first second (b ∷ rest) ≡ false
not_both first second b rest n = and_left (b == first) (begins second rest) (ne_eqb b first n)

head_apart : (c : ℕ) (xs rest : List ℕ) → 0 < length xs → DoesNotBeginWith c xs → begins c (xs ++ rest) ≡ false
head_apart c [] rest some h = absurd (omega arith)
head_apart c (x ∷ xs) rest some h = ne_eqb x c h

both_apart : (first second b : ℕ) (xs rest : List ℕ) → 0 < length xs → (b ≡ first → DoesNotBeginWith second xs) → begins_both first second (b ∷ (xs ++ rest)) ≡ false
both_apart first second b xs rest some h = elim (cases_eq b first) [
  | inl e ↦ and_right (b == first) (begins second (xs ++ rest)) (head_apart second xs rest some (h e))
  | inr n ↦ not_both first second b (xs ++ rest) n
]

goes_on : (inner : ℕ) (marks : List Mark) → ClosesAtLastMark inner marks → 0 < length (flat_map mark_bytes marks)
goes_on inner [] c = absurd c
goes_on inner (opening_mark ∷ marks) c = omega arith
goes_on inner (closing_mark ∷ marks) c = omega arith
goes_on inner (remark_byte b ∷ marks) c = omega arith

marks_run : (inner : ℕ) (marks : List Mark) (rest : List ℕ) → AreMarks marks → ClosesAtLastMark inner marks → skip (remark inner) (flat_map mark_bytes marks ++ rest) ≡ skip between rest
unfolding skip
marks_run inner [] rest a c = absurd c
marks_run inner (opening_mark ∷ marks) rest a c = marks_run (suc inner) marks rest a c
marks_run zero (closing_mark ∷ marks) rest a c = ap (λ (m : List Mark). skip between (flat_map mark_bytes m ++ rest)) c
marks_run (suc inner) (closing_mark ∷ marks) rest a c = marks_run inner marks rest a c
marks_run inner (remark_byte b ∷ marks) rest a c =
    let tail = flat_map mark_bytes marks in
    let some : 0 < length tail = goes_on inner marks c in
    no_mark inner (b ∷ (tail ++ rest)) (grind (arith, nat_tests)) (both_apart 40 42 b tail rest some a.0) (both_apart 42 41 b tail rest some a.1) ∙ marks_run inner marks rest a.2 c

line_run : (l rest : List ℕ) → Each (λ byte. byte ≢ 10) l → skip line (l ++ 10 ∷ rest) ≡ skip between rest
unfolding skip
line_run [] rest each = refl
line_run (b ∷ l) rest each = rw (ne_eqb b 10 each.0) (line_run l rest each.1)

line_last : (l : List ℕ) → Each (λ byte. byte ≢ 10) l → skip line l ≡ Some []
unfolding skip
line_last [] each = refl
line_last (b ∷ l) each = rw (ne_eqb b 10 each.0) (line_last l each.1)

blank_run : (b : ℕ) (rest : List ℕ) → IsSeparator (blank b) → skip between (b ∷ rest) ≡ skip between rest
blank_run b rest (inl h) = passes_blank (b ∷ rest) (not_both 40 42 b rest (λ e. omega arith)) (not_both 45 45 b rest (λ e. omega arith)) (blank_is b (inl h))
blank_run b rest (inr h) = passes_blank (b ∷ rest) (not_both 40 42 b rest (λ e. omega arith)) (not_both 45 45 b rest (λ e. omega arith)) (blank_is b (inr h))

separator_run : (s : Separator) → IsSeparator s → (rest : List ℕ) → skip between (separator_bytes s ++ rest) ≡ skip between rest
separator_run (blank b) h rest = blank_run b rest h
separator_run (embedded_remark marks) h rest = opens_remark (40 ∷ 42 ∷ (flat_map mark_bytes marks ++ rest)) refl ∙ marks_run zero marks rest h.0 h.1
separator_run (tail_remark l) h rest =
    opens_line (45 ∷ 45 ∷ ((l ++ 10 ∷ []) ++ rest)) refl refl ∙ (ap (λ (x : List ℕ). skip line x) (append_assoc l (10 ∷ []) rest) ∙ line_run l rest h)

separators_run : (ss : List Separator) → Each IsSeparator ss → (rest : List ℕ) → skip between (flat_map separator_bytes ss ++ rest) ≡ skip between rest
separators_run [] h rest = refl
separators_run (s ∷ ss) h rest =
    ap (λ (x : List ℕ). skip between x) (append_assoc (separator_bytes s) (flat_map separator_bytes ss) rest) ∙ (separator_run s h.0 (flat_map separator_bytes ss ++ rest) ∙ separators_run ss h.1 rest)

pub gap_run : (bytes : List ℕ) → IsSeparatorText bytes → (rest : List ℕ) → skip between (bytes ++ rest) ≡ skip between rest
gap_run bytes h rest = ap (λ (x : List ℕ). skip between (x ++ rest)) h.2 ∙ separators_run h.0 h.1 rest

last_run : (bytes : List ℕ) → IsLastSeparatorText bytes → skip between bytes ≡ Some []
last_run bytes (inl h) = ap (λ (x : List ℕ). skip between x) (sym (append-nil bytes)) ∙ (gap_run bytes h [] ∙ stops [] refl refl refl)
last_run bytes (inr (gap, l, is, g, each)) =
    ap (λ (x : List ℕ). skip between x) is ∙ (gap_run gap g (45 ∷ 45 ∷ l) ∙ (opens_line (45 ∷ 45 ∷ l) refl refl ∙ line_last l each))

-- ---- lexemes

found_same : (l m : Lexeme) (r s : List ℕ) → l ≡ m → r ≡ s → found l r ≡ found m s
found_same l m r s p q = cc

pub span_run : (class : Class) (xs rest : List ℕ) → Each (λ b. is_of class b ≡ true) xs → begins_of class rest ≡ false → (front class (xs ++ rest) ≡ xs) × (behind class (xs ++ rest) ≡ rest)
span_run class [] [] each ends = (refl, refl)
span_run class [] (b ∷ rest) each ends = (rw ends refl, rw ends refl)
span_run class (x ∷ xs) rest each ends =
    let more = span_run class xs rest each.1 ends in
    (rw (each.0) (ap (λ (y : List ℕ). x ∷ y) more.0), rw (each.0) more.1)

unquote_run : (inside rest : List ℕ) → begins 39 rest ≡ false → unquote false (flat_map quote_twice inside ++ 39 ∷ rest) ≡ quoted inside rest
unfolding unquote
unquote_run [] [] h = refl
unquote_run [] (b ∷ rest) h = rw h refl
unquote_run (x ∷ inside) rest h = elim (cases_Bool (x == 39)) [
  | inl e ↦ rw e (ap (after (39 ∷ [])) (unquote_run inside rest h) ∙ ap (λ (y : ℕ). quoted (y ∷ inside) rest) (sym (eqb-true x 39 e)))
  | inr n ↦ rw (n, n) (ap (after (x ∷ [])) (unquote_run inside rest h))
]

begins_lexeme : (bytes : List ℕ) → begins_both 40 42 bytes ≡ false → begins_both 45 45 bytes ≡ false → begins_of Blank bytes ≡ false → first_lexeme_of bytes ≡ lexeme_of bytes
begins_lexeme bytes n m k = ap first_lexeme_within (stops bytes n m k)

identifier_ends : (name rest : List ℕ) → LexemeIsFollowed (identifier name) rest → begins_of IdentifierByte rest ≡ false
identifier_ends name [] f = refl
identifier_ends name (b ∷ rest) f = no_identifier b f

digits_end : (ds rest : List ℕ) → LexemeIsFollowed (digits ds) rest → begins_of Digit rest ≡ false
digits_end ds [] f = refl
digits_end ds (b ∷ rest) f = no_digit b f

apostrophe_ends : (inside rest : List ℕ) → LexemeIsFollowed (simple_string inside) rest → begins 39 rest ≡ false
apostrophe_ends inside [] f = refl
apostrophe_ends inside (b ∷ rest) f = ne_eqb b 39 f

identifier_bytes : (bytes : List ℕ) → Each IsIdentifierByte bytes → Each (λ b. is_of IdentifierByte b ≡ true) bytes
identifier_bytes [] each = tt
identifier_bytes (b ∷ bytes) each = (identifier_is b each.0, identifier_bytes bytes each.1)

digit_bytes : (bytes : List ℕ) → AllDigits bytes → Each (λ b. is_of Digit b ≡ true) bytes
digit_bytes [] each = tt
digit_bytes (b ∷ bytes) each = (digit_is b each.0, digit_bytes bytes each.1)

encoded_bytes : (bytes : List ℕ) → Each (λ b. b ≢ 34) bytes → Each (λ b. is_of Encoded b ≡ true) bytes
encoded_bytes [] each = tt
encoded_bytes (b ∷ bytes) each = (encoded_is b each.0, encoded_bytes bytes each.1)

not_quote : is_of Encoded 34 ≡ false
unfolding is_of
not_quote = refl

symbol_apart : (first second b : ℕ) (rest : List ℕ) → (b ≡ first → LexemeIsFollowed (symbol b) rest → begins second rest ≡ false) → LexemeIsFollowed (symbol b) rest → begins_both first second (b ∷ rest) ≡ false
symbol_apart first second b rest h f = elim (cases_eq b first) [
  | inl e ↦ and_right (b == first) (begins second rest) (h e f)
  | inr n ↦ not_both first second b rest n
]

symbol_no_remark : (b : ℕ) (rest : List ℕ) → b ≡ 40 → LexemeIsFollowed (symbol b) rest → begins 42 rest ≡ false
symbol_no_remark b [] e f = refl
symbol_no_remark b (c ∷ rest) e f = ne_eqb c 42 (f.0 e)

symbol_no_line : (b : ℕ) (rest : List ℕ) → b ≡ 45 → LexemeIsFollowed (symbol b) rest → begins 45 rest ≡ false
symbol_no_line b [] e f = refl
symbol_no_line b (c ∷ rest) e f = ne_eqb c 45 (f.1 e)

lexeme_run : (lexeme : Lexeme) (spelling rest : List ℕ) → SpellsLexeme lexeme spelling → LexemeIsFollowed lexeme rest → first_lexeme_of (spelling ++ rest) ≡ found lexeme rest
lexeme_run (identifier name) [] rest s f = absurd s.0
lexeme_run (identifier name) (b ∷ bytes) rest s f =
    let p = letter_prints b s.0.0 in
    let all : Each (λ x. is_of IdentifierByte x ≡ true) (b ∷ bytes) = (identifier_is b (inl s.0.0), identifier_bytes bytes s.0.1) in
    let span = span_run IdentifierByte (b ∷ bytes) rest all (identifier_ends name rest f) in
    begins_lexeme (b ∷ (bytes ++ rest)) (not_both 40 42 b (bytes ++ rest) p.2) (not_both 45 45 b (bytes ++ rest) p.3) (printing_no_blank b p.0 p.1)
    ∙ (at_identifier (b ∷ (bytes ++ rest)) (letter_is b s.0.0)
    ∙ found_same _ _ _ _ (ap (λ (x : List ℕ). identifier (map upper x)) span.0 ∙ ap identifier (sym s.1)) span.1)
lexeme_run (digits ds) [] rest s f = absurd (let e = ap length s.0 in let some = s.1 in omega arith)
lexeme_run (digits ds) (b ∷ bytes) rest s f =
    let all : AllDigits (b ∷ bytes) = subst (λ (x : List ℕ). AllDigits x) (sym s.0) s.2 in
    let d : IsDigit b = all.0 in
    let span = span_run Digit (b ∷ bytes) rest (digit_bytes (b ∷ bytes) all) (digits_end ds rest f) in
    begins_lexeme (b ∷ (bytes ++ rest)) (not_both 40 42 b (bytes ++ rest) (λ e. omega arith)) (not_both 45 45 b (bytes ++ rest) (λ e. omega arith)) (printing_no_blank b (omega arith) (omega arith))
    ∙ (at_digits (b ∷ (bytes ++ rest)) (no_letter b (digit_no_letter b d)) (digit_is b d)
    ∙ found_same _ _ _ _ (ap digits (span.0 ∙ s.0)) span.1)
lexeme_run (simple_string inside) spelling rest s f =
    let tail = flat_map quote_twice inside in
    let same : (tail ++ 39 ∷ []) ++ rest ≡ tail ++ 39 ∷ rest = append_assoc tail (39 ∷ []) rest in
    ap (λ (x : List ℕ). first_lexeme_of (x ++ rest)) s
    ∙ (begins_lexeme (39 ∷ ((tail ++ 39 ∷ []) ++ rest)) refl refl (printing_no_blank 39 (omega arith) (omega arith))
    ∙ (at_simple (39 ∷ ((tail ++ 39 ∷ []) ++ rest)) (no_letter 39 (λ h. not_letter_39 h)) (no_digit 39 (λ h. omega arith)) refl
    ∙ ap simple_of (ap (λ (x : List ℕ). unquote false x) same ∙ unquote_run inside rest (apostrophe_ends inside rest f))))
  where
    not_letter_39 : IsLetter 39 → ⊥
    not_letter_39 (inl h) = omega arith
    not_letter_39 (inr h) = omega arith
lexeme_run (encoded_string inside) spelling rest s f =
    let same : (inside ++ 34 ∷ []) ++ rest ≡ inside ++ 34 ∷ rest = append_assoc inside (34 ∷ []) rest in
    let span = span_run Encoded inside (34 ∷ rest) (encoded_bytes inside s.1) not_quote in
    ap (λ (x : List ℕ). first_lexeme_of (x ++ rest)) s.0
    ∙ (begins_lexeme (34 ∷ ((inside ++ 34 ∷ []) ++ rest)) refl refl (printing_no_blank 34 (omega arith) (omega arith))
    ∙ (at_encoded (34 ∷ ((inside ++ 34 ∷ []) ++ rest)) (no_letter 34 (λ h. not_letter_34 h)) (no_digit 34 (λ h. omega arith)) refl refl
    ∙ (ap (λ (x : List ℕ). encoded_of (front Encoded x) (behind Encoded x)) same
    ∙ (ap (λ (x : List ℕ). encoded_of x (behind Encoded (inside ++ 34 ∷ rest))) span.0 ∙ ap (encoded_of inside) span.1))))
  where
    not_letter_34 : IsLetter 34 → ⊥
    not_letter_34 (inl h) = omega arith
    not_letter_34 (inr h) = omega arith
lexeme_run (symbol b) spelling rest (is, low, high, n, m, k, l) f =
    ap (λ (x : List ℕ). first_lexeme_of (x ++ rest)) is
    ∙ (begins_lexeme (b ∷ rest) (symbol_apart 40 42 b rest (symbol_no_remark b rest) f) (symbol_apart 45 45 b rest (symbol_no_line b rest) f) (printing_no_blank b low high)
    ∙ at_symbol (b ∷ rest) (no_letter b n) (no_digit b m) (ne_eqb b 39 k) (ne_eqb b 34 l) (symbol_is b low high (no_letter b n) (no_digit b m) k l))

-- ---- a text

-- the front of a text in which lexemes are laid
abbrev pub LaidNext : List Lexeme → List ℕ → Type 0
LaidNext [] bytes = first_lexeme_of bytes ≡ ended
LaidNext (lexeme ∷ lexemes) bytes = (rest : List ℕ) × (first_lexeme_of bytes ≡ found lexeme rest) × LaidLexemes lexemes rest

pub laid_read : (lexemes : List Lexeme) (bytes : List ℕ) → LaidLexemes lexemes bytes → LaidNext lexemes bytes
laid_read [] bytes l = ap first_lexeme_within (last_run bytes l)
laid_read (lexeme ∷ lexemes) bytes (gap, spelling, rest, is, g, s, f, more) =
    (rest, ap first_lexeme_of is ∙ (ap (λ (x : List ℕ). first_lexeme_of x) (append_assoc gap spelling rest) ∙ (ap first_lexeme_within (gap_run gap g (spelling ++ rest)) ∙ lexeme_run lexeme spelling rest s f)), more)
