-- Bytes that end within a statement, and how many bytes of its tokens they have (ISO 10303-21, tokens, token separators).
use Rattle.std.specs.Prelude.{◌≡◌, ◌≢◌, ℕ, ◌+◌, ◌<◌, List, [], ◌∷◌, ◌++◌, length}
use Rattle.p21_spec_exchange.specs.Laying.{Lexeme, open_bytes}
use Rattle.p21_spec_exchange.specs.Separator.{IsSeparatorText}
use Rattle.p21_spec_exchange.specs.Token.{Token, Spells, MayFollow, IsFollowed, IsWholeAtOnce}

-- what stands last: nothing, a token that is not known to be whole, a lone `/`, or an open comment with these bytes inside
pub data Tail : Type 0 where
  nothing : Tail
  unfinished : List ℕ → Tail
  slash : Tail
  open_comment : List ℕ → Tail

-- the bytes of it
abbrev pub tail_bytes : Tail → List ℕ
tail_bytes nothing = []
tail_bytes (unfinished bytes) = bytes
tail_bytes slash = 47 ∷ []
tail_bytes (open_comment inside) = 47 ∷ 42 ∷ inside

-- the token bytes in it: a lone `/` and a comment have none
abbrev pub tail_size : Tail → ℕ
tail_size (unfinished bytes) = length bytes
tail_size other = 0

-- a byte stands first that is no separator and no `/`
abbrev pub BeginsWithNoSeparator : List ℕ → Type 0
BeginsWithNoSeparator [] = ⊥
BeginsWithNoSeparator (byte ∷ bytes) = (32 < byte) × (byte ≢ 127) × (byte ≢ 47)

-- a spelling is known to be whole by its last byte or by the one behind it
abbrev pub IsKnownWhole : Token → List ℕ → List ℕ → Type 0
IsKnownWhole token spelling [] = IsWholeAtOnce token
IsKnownWhole token spelling (byte ∷ bytes) = MayFollow token spelling byte

-- bytes that begin with no separator, and with no token that is known to be whole
pub record IsUnfinished (bytes : List ℕ) : Type 0 where
  pub first : BeginsWithNoSeparator bytes
  pub not_whole : (token : Token) (spelling rest : List ℕ) → bytes ≡ spelling ++ rest → Spells token spelling → IsKnownWhole token spelling rest → ⊥

-- the tail is what it says: in an open comment no `*/` stands
abbrev pub IsTail : Tail → Type 0
IsTail nothing = Unit {0}
IsTail (unfinished bytes) = IsUnfinished bytes
IsTail slash = Unit {0}
IsTail (open_comment inside) = (before after : List ℕ) → inside ≡ before ++ (42 ∷ 47 ∷ after) → ⊥

-- the bytes are separator text and spellings in turn, of these tokens and sizes, separator text last, then the tail
abbrev pub LaidUpTo : List ℕ → List Lexeme → Tail → Type 0
LaidUpTo bytes [] tail = (gap : List ℕ) × (bytes ≡ gap ++ tail_bytes tail) × IsSeparatorText gap × IsTail tail
LaidUpTo bytes (lexeme ∷ lexemes) tail =
    (gap spelling rest : List ℕ) × (bytes ≡ gap ++ (spelling ++ rest)) × IsSeparatorText gap
    × Spells lexeme.token spelling × (lexeme.size ≡ length spelling) × IsFollowed lexeme.token spelling rest × LaidUpTo rest lexemes tail

-- the token bytes behind the last `;` token, those of an unfinished token among them
pub record IsPending (taken : List ℕ) (pending : ℕ) : Type 0 where
  pub lexemes : List Lexeme
  pub tail : Tail
  pub laid : LaidUpTo taken lexemes tail
  pub pending_is : pending ≡ open_bytes 0 lexemes + tail_size tail

-- whether a byte behind the tail counts as one of a token: inside a token each byte, between tokens, and where it may
-- follow the token that the tail spells, none that is a separator or a `/`, and inside a comment and behind a lone `/` none
abbrev pub IsTokenByte : Tail → ℕ → Type 0
IsTokenByte nothing byte = BeginsWithNoSeparator (byte ∷ [])
IsTokenByte (unfinished bytes) byte = (token : Token) → Spells token bytes → MayFollow token bytes byte → BeginsWithNoSeparator (byte ∷ [])
IsTokenByte slash byte = ⊥
IsTokenByte (open_comment inside) byte = ⊥
