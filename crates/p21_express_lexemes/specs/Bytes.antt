-- Classes of bytes, as tests.
use Rattle.std.specs.Prelude.{ℕ, Bool, false, not, nat_le, ◌==◌, ◌&&◌, ◌||◌, List, [], ◌∷◌, if◌then◌else◌}
use Rattle.p21_express_lexemes.specs.declared.bytes.Class.{Class}
use Rattle.p21_express_lexemes.specs.declared.bytes.Class.TheVariants.{Blank, Letter, Digit, IdentifierByte, Encoded, LineByte, SymbolByte}
use Rattle.p21_spec_basics.specs.Digits.{is_digit}

abbrev pub is_blank : ℕ → Bool
is_blank byte = nat_le byte 32 || byte == 127

abbrev pub is_letter : ℕ → Bool
is_letter byte = nat_le 65 byte && nat_le byte 90 || nat_le 97 byte && nat_le byte 122

abbrev pub is_identifier_byte : ℕ → Bool
is_identifier_byte byte = is_letter byte || is_digit byte || byte == 95

-- a printing byte that begins no identifier, digits or string
abbrev pub is_symbol : ℕ → Bool
is_symbol byte = nat_le 33 byte && nat_le byte 126 && not (is_letter byte) && not (is_digit byte) && not (byte == 39) && not (byte == 34)

-- the byte is of the class
unfoldable pub is_of : Class → ℕ → Bool
is_of Blank byte = is_blank byte
is_of Letter byte = is_letter byte
is_of Digit byte = is_digit byte
is_of IdentifierByte byte = is_identifier_byte byte
is_of Encoded byte = not (byte == 34)
is_of LineByte byte = not (byte == 10)
is_of SymbolByte byte = is_symbol byte

-- the first byte, if there is one, is of the class
abbrev pub begins_of : Class → List ℕ → Bool
begins_of class [] = false
begins_of class (byte ∷ bytes) = is_of class byte

-- the bytes of the class at the front
abbrev pub front : Class → List ℕ → List ℕ
front class [] = []
front class (byte ∷ bytes) = if is_of class byte then byte ∷ front class bytes else []

-- what stands behind them
abbrev pub behind : Class → List ℕ → List ℕ
behind class [] = []
behind class (byte ∷ bytes) = if is_of class byte then behind class bytes else byte ∷ bytes

-- the first byte is this one
abbrev pub begins : ℕ → List ℕ → Bool
begins first [] = false
begins first (byte ∷ bytes) = byte == first

-- the first two bytes are these
abbrev pub begins_both : ℕ → ℕ → List ℕ → Bool
begins_both first second [] = false
begins_both first second (byte ∷ bytes) = byte == first && begins second bytes
