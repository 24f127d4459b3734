-- Tokens laid one behind the other, on one line or on the next.
use Rattle.std.proofs.Common.{ℕ, ◌⊎◌, Bool, true, false, ◌&&◌, ◌||◌, List, [], ◌∷◌, ◌++◌, length, refl, sym, inl, inr, arith, lit≤}
use Rattle.std.proofs.lemmas.List.{append-nil}
use Rattle.std.specs.List.{AllByRecursion as Each}
use lib.Dec.{T, leb, eqb, leb→le, eqb→eq}
use Rattle.p21_spec_basics.proofs.Comparing.{both}
use Rattle.p21_spec_exchange.specs.Pending.{LaidUpTo, nothing}
use Rattle.p21_spec_exchange.specs.Token.{Token, Spells, IsFollowed}
use Rattle.p21_spec_exchange.specs.Laying.{Lexeme, LaidAs}
use Rattle.p21_spec_exchange.specs.Separator.{blank}
use Rattle.p21_spec_exchange.specs.Keyword.{IsUpper, IsKeywordByte, IsKeyword}

-- directly behind what stands before
pub lay : (token : Token) (spelling rest : List ℕ) (lexemes : List Lexeme) → Spells token spelling → IsFollowed token spelling rest → LaidAs rest lexemes
    → LaidAs (spelling ++ rest) (record { token = token; size = length spelling } ∷ lexemes)
lay token spelling rest lexemes spells followed laid = ([], spelling, rest, refl, ([], tt, refl), spells, refl, followed, laid)

-- behind an LF
pub lay_on_line : (token : Token) (spelling rest : List ℕ) (lexemes : List Lexeme) → Spells token spelling → IsFollowed token spelling rest → LaidAs rest lexemes
    → LaidAs (10 ∷ (spelling ++ rest)) (record { token = token; size = length spelling } ∷ lexemes)
lay_on_line token spelling rest lexemes spells followed laid = (10 ∷ [], spelling, rest, refl, (blank 10 ∷ [], (inl (lit≤ tt), tt), refl), spells, refl, followed, laid)

pub lay_end : LaidAs (10 ∷ []) []
lay_end = (blank 10 ∷ [], (inl (lit≤ tt), tt), refl)

either : (x y : Bool) → T (x || y) → T x ⊎ T y
either true y t = inl tt
either false true t = inr tt
either false false t = absurd t

abbrev pub is_upper : ℕ → Bool
is_upper byte = (leb 65 byte && leb byte 90) || eqb byte 95

upper_by : (byte : ℕ) → T (is_upper byte) → IsUpper byte
upper_by byte t = elim (either (leb 65 byte && leb byte 90) (eqb byte 95) t) [ inl h ↦ (let r = both (leb 65 byte) (leb byte 90) h in inl (leb→le 65 byte r.0, leb→le byte 90 r.1)) | inr h ↦ inr (eqb→eq byte 95 h) ]

abbrev pub is_keyword_byte : ℕ → Bool
is_keyword_byte byte = is_upper byte || (leb 48 byte && leb byte 57)

keyword_byte_by : (byte : ℕ) → T (is_keyword_byte byte) → IsKeywordByte byte
keyword_byte_by byte t = elim (either (is_upper byte) (leb 48 byte && leb byte 57) t) [ inl h ↦ inl (upper_by byte h) | inr h ↦ (let r = both (leb 48 byte) (leb byte 57) h in inr (leb→le 48 byte r.0, leb→le byte 57 r.1)) ]

abbrev pub are_keyword_bytes : List ℕ → Bool
are_keyword_bytes [] = true
are_keyword_bytes (byte ∷ bytes) = is_keyword_byte byte && are_keyword_bytes bytes

keyword_bytes_by : (bytes : List ℕ) → T (are_keyword_bytes bytes) → Each IsKeywordByte bytes
keyword_bytes_by [] t = tt
keyword_bytes_by (byte ∷ bytes) t = let r = both (is_keyword_byte byte) (are_keyword_bytes bytes) t in (keyword_byte_by byte r.0, keyword_bytes_by bytes r.1)

abbrev pub is_keyword : List ℕ → Bool
is_keyword [] = false
is_keyword (byte ∷ bytes) = is_upper byte && are_keyword_bytes bytes

pub keyword_by : (bytes : List ℕ) → T (is_keyword bytes) → IsKeyword bytes
keyword_by [] t = absurd t
keyword_by (byte ∷ bytes) t = let r = both (is_upper byte) (are_keyword_bytes bytes) t in (upper_by byte r.0, keyword_bytes_by bytes r.1)

pub left_ends_words : ¬ IsKeywordByte 40
left_ends_words (inl (inl h)) = omega (arith, h)
left_ends_words (inl (inr h)) = omega (arith, h)
left_ends_words (inr h) = omega (arith, h)

pub semicolon_ends_words : ¬ IsKeywordByte 59
semicolon_ends_words (inl (inl h)) = omega (arith, h)
semicolon_ends_words (inl (inr h)) = omega (arith, h)
semicolon_ends_words (inr h) = omega (arith, h)

-- bytes that are laid are laid up to their end
pub up_to : (bytes : List ℕ) (lexemes : List Lexeme) → LaidAs bytes lexemes → LaidUpTo bytes lexemes nothing
up_to bytes [] laid = (bytes, sym (append-nil bytes), laid, tt)
up_to bytes (lexeme ∷ lexemes) laid = (laid.0, laid.1, laid.2, laid.3, laid.4, laid.5, laid.6, laid.7, up_to laid.2 lexemes laid.8)
