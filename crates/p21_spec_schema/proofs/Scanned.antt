-- Texts of schemas whose lexemes are identifiers, digits and symbols: a text is laid as what stands in it, one by one.
use Rattle.std.specs.Prelude.{◌≡◌, ℕ, ◌≤◌, Bool, true, false, not, ◌&&◌, ◌==◌, nat_le, if◌then◌else◌, List, [], ◌∷◌, map, refl}
use Rattle.std.specs.List.{flat_map, AllByRecursion as Each}
use Rattle.std.proofs.Common.{arith, inl, inr, ap}
use Rattle.std.proofs.lemmas.Bool.Decides.{nat_tests}
use Rattle.std.proofs.lemmas.Bool.{and_parts, not-true}
use Rattle.p21_spec_basics.specs.Digits.{IsDigit, AllDigits, is_digit}
use Rattle.p21_spec_schema.specs.Express.{Lexeme, identifier, digits, symbol, IsLetter, IsIdentifierByte, upper, LexemeMayFollow}
use Rattle.p21_spec_schema.specs.ExpressLaying.{LexemeIsFollowed, LaidLexemes}
use Rattle.p21_spec_schema.specs.Remark.{blank}

-- a space, an identifier as it is written, digits, or a symbol
pub data Piece : Type 0 where
  space : Piece
  letters : List ℕ → Piece
  number : List ℕ → Piece
  mark : ℕ → Piece

abbrev is_letter : ℕ → Bool
is_letter byte = if nat_le 65 byte && nat_le byte 90 then true else nat_le 97 byte && nat_le byte 122

abbrev is_inner : ℕ → Bool
is_inner byte = if is_letter byte then true else if is_digit byte then true else byte == 95

abbrev all_inner : List ℕ → Bool
all_inner [] = true
all_inner (byte ∷ bytes) = is_inner byte && all_inner bytes

abbrev all_digits : List ℕ → Bool
all_digits [] = true
all_digits (byte ∷ bytes) = is_digit byte && all_digits bytes

-- a byte in front of what is scanned
abbrev put_letter : ℕ → List Piece → List Piece
put_letter byte (letters word ∷ pieces) = letters (byte ∷ word) ∷ pieces
put_letter byte (number ds ∷ pieces) = letters (byte ∷ ds) ∷ pieces
put_letter byte pieces = letters (byte ∷ []) ∷ pieces

abbrev put_digit : ℕ → List Piece → List Piece
put_digit byte (letters word ∷ pieces) = letters (byte ∷ word) ∷ pieces
put_digit byte (number ds ∷ pieces) = number (byte ∷ ds) ∷ pieces
put_digit byte pieces = number (byte ∷ []) ∷ pieces

abbrev put : ℕ → List Piece → List Piece
put byte pieces = if byte == 32 then space ∷ pieces else if is_digit byte then put_digit byte pieces else if is_inner byte then put_letter byte pieces else mark byte ∷ pieces

abbrev pub scan : List ℕ → List Piece
scan [] = []
scan (byte ∷ bytes) = put byte (scan bytes)

abbrev piece_bytes : Piece → List ℕ
piece_bytes space = 32 ∷ []
piece_bytes (letters word) = word
piece_bytes (number ds) = ds
piece_bytes (mark byte) = byte ∷ []

abbrev piece_lexemes : Piece → List Lexeme
piece_lexemes space = []
piece_lexemes (letters word) = identifier (map upper word) ∷ []
piece_lexemes (number ds) = digits ds ∷ []
piece_lexemes (mark byte) = symbol byte ∷ []

abbrev pub bytes_of : List Piece → List ℕ
bytes_of pieces = flat_map piece_bytes pieces

abbrev pub lexemes_of : List Piece → List Lexeme
lexemes_of pieces = flat_map piece_lexemes pieces

-- no apostrophe and quotation mark, and no `*`, `-` and `_`
abbrev is_mark : ℕ → Bool
is_mark byte = nat_le 33 byte && (nat_le byte 126 && (not (is_inner byte) && (not (byte == 39) && (not (byte == 34) && (not (byte == 42) && not (byte == 45))))))

abbrev is_piece : Piece → Bool
is_piece space = true
is_piece (letters []) = false
is_piece (letters (byte ∷ word)) = is_letter byte && all_inner word
is_piece (number []) = false
is_piece (number (byte ∷ ds)) = is_digit byte && all_digits ds
is_piece (mark byte) = is_mark byte

-- behind an identifier and behind digits a space or a symbol
abbrev ends_word : List Piece → Bool
ends_word (letters word ∷ pieces) = false
ends_word (number ds ∷ pieces) = false
ends_word other = true

abbrev may_follow : Piece → List Piece → Bool
may_follow (letters word) pieces = ends_word pieces
may_follow (number ds) pieces = ends_word pieces
may_follow other pieces = true

abbrev pub are_pieces : List Piece → Bool
are_pieces [] = true
are_pieces (piece ∷ pieces) = is_piece piece && (may_follow piece pieces && are_pieces pieces)

letter-is : (byte : ℕ) → is_letter byte ≡ true → IsLetter byte
letter-is byte h = grind (arith, nat_tests, h)

digit-is : (byte : ℕ) → is_digit byte ≡ true → IsDigit byte
digit-is byte h = grind (arith, nat_tests, h)

inner-is : (byte : ℕ) → is_inner byte ≡ true → IsIdentifierByte byte
inner-is byte h = grind (arith, nat_tests, h)

not-inner : (byte : ℕ) → is_inner byte ≡ false → IsIdentifierByte byte → ⊥
not-inner byte h (inl (inl is)) = grind (arith, nat_tests, h, is)
not-inner byte h (inl (inr is)) = grind (arith, nat_tests, h, is)
not-inner byte h (inr (inl is)) = grind (arith, nat_tests, h, is)
not-inner byte h (inr (inr is)) = grind (arith, nat_tests, h, is)

each-inner : (bytes : List ℕ) → all_inner bytes ≡ true → Each IsIdentifierByte bytes
each-inner [] h = tt
each-inner (byte ∷ bytes) h = let is = and_parts (is_inner byte) (all_inner bytes) h in (inner-is byte is.0, each-inner bytes is.1)

each-digit : (bytes : List ℕ) → all_digits bytes ≡ true → AllDigits bytes
each-digit [] h = tt
each-digit (byte ∷ bytes) h = let is = and_parts (is_digit byte) (all_digits bytes) h in (digit-is byte is.0, each-digit bytes is.1)

-- what a symbol is
record IsMark (byte : ℕ) : Type 0 where
  low : 33 ≤ byte
  high : byte ≤ 126
  no_inner : ¬ IsIdentifierByte byte
  no_apostrophe : byte ≡ 39 → ⊥
  no_quote : byte ≡ 34 → ⊥
  no_star : byte ≡ 42 → ⊥
  no_hyphen : byte ≡ 45 → ⊥

differs : (byte other : ℕ) → not (byte == other) ≡ true → byte ≡ other → ⊥
differs byte other h same = grind (arith, nat_tests, h, same)

mark-is : (byte : ℕ) → is_mark byte ≡ true → IsMark byte
mark-is byte h =
    let a = and_parts (nat_le 33 byte) _ h in
    let b = and_parts (nat_le byte 126) _ a.1 in
    let c = and_parts (not (is_inner byte)) _ b.1 in
    let d = and_parts (not (byte == 39)) _ c.1 in
    let e = and_parts (not (byte == 34)) _ d.1 in
    let f = and_parts (not (byte == 42)) (not (byte == 45)) e.1 in
    let first = a.0 in
    let second = b.0 in
    record {
      low = grind (arith, nat_tests, first);
      high = grind (arith, nat_tests, second);
      no_inner = not-inner byte (not-true (is_inner byte) c.0);
      no_apostrophe = differs byte 39 d.0;
      no_quote = differs byte 34 e.0;
      no_star = differs byte 42 f.0;
      no_hyphen = differs byte 45 f.1;
    }

-- the first byte behind an identifier or digits
word-ends : (lexeme : Lexeme) → ((byte : ℕ) → ¬ IsIdentifierByte byte → LexemeMayFollow lexeme byte) → (pieces : List Piece) → ends_word pieces ≡ true → are_pieces pieces ≡ true → LexemeIsFollowed lexeme (bytes_of pieces)
word-ends lexeme follows [] ends are = tt
word-ends lexeme follows (space ∷ pieces) ends are = follows 32 (λ is. no_space is)
  where
    no_space : IsIdentifierByte 32 → ⊥
    no_space (inl (inl h)) = omega (arith, h)
    no_space (inl (inr h)) = omega (arith, h)
    no_space (inr (inl h)) = omega (arith, h)
    no_space (inr (inr h)) = omega (arith, h)
word-ends lexeme follows (letters word ∷ pieces) ends are = cc
word-ends lexeme follows (number ds ∷ pieces) ends are = cc
word-ends lexeme follows (mark byte ∷ pieces) ends are = follows byte (mark-is byte (and_parts (is_mark byte) _ are).0).no_inner

-- and behind a symbol, which begins no remark
mark-ends : (byte : ℕ) (pieces : List Piece) → are_pieces pieces ≡ true → LexemeIsFollowed (symbol byte) (bytes_of pieces)
mark-ends byte [] are = tt
mark-ends byte (space ∷ pieces) are = (λ h k. omega (arith, k), λ h k. omega (arith, k))
mark-ends byte (letters [] ∷ pieces) are = cc
mark-ends byte (letters (b ∷ word) ∷ pieces) are =
    let first = (and_parts (is_letter b) _ (and_parts (is_letter b && all_inner word) _ are).0).0 in
    by (letter-is b first)
  where
    by : IsLetter b → LexemeMayFollow (symbol byte) b
    by (inl is) = (λ h k. omega (arith, k, is), λ h k. omega (arith, k, is))
    by (inr is) = (λ h k. omega (arith, k, is), λ h k. omega (arith, k, is))
mark-ends byte (number [] ∷ pieces) are = cc
mark-ends byte (number (b ∷ ds) ∷ pieces) are =
    let is : IsDigit b = digit-is b (and_parts (is_digit b) _ (and_parts (is_digit b && all_digits ds) _ are).0).0 in
    (λ h k. omega (arith, k, is), λ h k. omega (arith, k, is))
mark-ends byte (mark b ∷ pieces) are = let is = mark-is b (and_parts (is_mark b) _ are).0 in (λ h k. is.no_star k, λ h k. is.no_hyphen k)

-- a space before what is laid
space-before : (lexemes : List Lexeme) (bytes : List ℕ) → LaidLexemes lexemes bytes → LaidLexemes lexemes (32 ∷ bytes)
space-before [] bytes (inl (separators, are, is)) = inl (blank 32 ∷ separators, (inl (omega arith), are), ap (λ bs. 32 ∷ bs) is)
space-before [] bytes (inr (gap, line, is, (separators, are, gap_is), each)) = inr (32 ∷ gap, line, ap (λ bs. 32 ∷ bs) is, (blank 32 ∷ separators, (inl (omega arith), are), ap (λ bs. 32 ∷ bs) gap_is), each)
space-before (lexeme ∷ lexemes) bytes (gap, spelling, rest, is, (separators, are, gap_is), spelled, followed, laid) =
    (32 ∷ gap, spelling, rest, ap (λ bs. 32 ∷ bs) is, (blank 32 ∷ separators, (inl (omega arith), are), ap (λ bs. 32 ∷ bs) gap_is), spelled, followed, laid)

pub pieces-laid : (pieces : List Piece) → are_pieces pieces ≡ true → LaidLexemes (lexemes_of pieces) (bytes_of pieces)
pieces-laid [] are = inl ([], tt, refl)
pieces-laid (space ∷ pieces) are = space-before (lexemes_of pieces) (bytes_of pieces) (pieces-laid pieces are)
pieces-laid (letters [] ∷ pieces) are = cc
pieces-laid (letters (b ∷ word) ∷ pieces) are =
    let first = and_parts (is_letter b && all_inner word) (ends_word pieces && are_pieces pieces) are in
    let is = and_parts (is_letter b) (all_inner word) first.0 in
    let next = and_parts (ends_word pieces) (are_pieces pieces) first.1 in
    ([], b ∷ word, bytes_of pieces, refl, ([], tt, refl), ((letter-is b is.0, each-inner word is.1), refl), word-ends (identifier (map upper (b ∷ word))) (λ byte none. none) pieces next.0 next.1, pieces-laid pieces next.1)
pieces-laid (number [] ∷ pieces) are = cc
pieces-laid (number (b ∷ ds) ∷ pieces) are =
    let first = and_parts (is_digit b && all_digits ds) (ends_word pieces && are_pieces pieces) are in
    let is = and_parts (is_digit b) (all_digits ds) first.0 in
    let next = and_parts (ends_word pieces) (are_pieces pieces) first.1 in
    ([], b ∷ ds, bytes_of pieces, refl, ([], tt, refl), (refl, omega arith, (digit-is b is.0, each-digit ds is.1)), word-ends (digits (b ∷ ds)) (λ byte none digit. none (inr (inl digit))) pieces next.0 next.1, pieces-laid pieces next.1)
pieces-laid (mark b ∷ pieces) are =
    let first = and_parts (is_mark b) (are_pieces pieces) are in
    let is = mark-is b first.0 in
    ([], b ∷ [], bytes_of pieces, refl, ([], tt, refl), (refl, is.low, is.high, λ h. is.no_inner (inl h), λ h. is.no_inner (inr (inl h)), is.no_apostrophe, is.no_quote), mark-ends b pieces first.1, pieces-laid pieces first.1)
