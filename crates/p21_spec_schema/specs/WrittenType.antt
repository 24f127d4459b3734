-- A data type as a declaration writes it, and the lexical elements of it (ISO 10303-11, Data types).
use Rattle.std.specs.Prelude.{ℕ, suc, Bool, true, false, List, [], ◌∷◌, ◌++◌, map, codes, Option, Some, None}
use Rattle.p21_spec_schema.specs.Express.{Lexeme, identifier, digits, symbol}
use Rattle.p21_spec_schema.specs.ReservedWord.{IsName}

-- a width in digits, and whether FIXED stands behind it
pub record Width : Type 0 where
  pub most : List ℕ
  pub fixed : Bool

-- an upper bound: digits, or `?`
pub data UpperBound : Type 0 where
  bounded : List ℕ → UpperBound
  unbounded : UpperBound

-- `[` low `:` high `]`
pub record Bounds : Type 0 where
  pub low : List ℕ
  pub high : UpperBound

-- REAL with its precision, STRING and BINARY with their widths, ARRAY with OPTIONAL and with UNIQUE or without, LIST with UNIQUE or without
pub data WrittenType : Type 0 where
  integer_type : WrittenType
  real_type : Option (List ℕ) → WrittenType
  number_type : WrittenType
  boolean_type : WrittenType
  logical_type : WrittenType
  string_type : Option Width → WrittenType
  binary_type : Option Width → WrittenType
  named_type : List ℕ → WrittenType
  array_type : Bounds → Bool → Bool → WrittenType → WrittenType
  list_type : Option Bounds → Bool → WrittenType → WrittenType
  set_type : Option Bounds → WrittenType → WrittenType
  bag_type : Option Bounds → WrittenType → WrittenType

-- a reserved word or a name
abbrev pub word : List ℕ → List Lexeme
word name = identifier name ∷ []

-- each byte as a symbol
abbrev pub symbols : List ℕ → List Lexeme
symbols bytes = map symbol bytes

-- a reserved word that may be left out
abbrev pub optional_word : Bool → List ℕ → List Lexeme
optional_word true name = word name
optional_word false name = []

-- `(` digits `)`, or nothing
abbrev pub precision_lexemes : Option (List ℕ) → List Lexeme
precision_lexemes None = []
precision_lexemes (Some precision) = symbols (codes "(") ++ digits precision ∷ symbols (codes ")")

-- `(` digits `)` and FIXED or not, or nothing
abbrev pub width_lexemes : Option Width → List Lexeme
width_lexemes None = []
width_lexemes (Some width) = symbols (codes "(") ++ digits width.most ∷ symbols (codes ")") ++ optional_word width.fixed (codes "FIXED")

-- digits or `?`
abbrev pub upper_bound_lexemes : UpperBound → List Lexeme
upper_bound_lexemes (bounded high) = digits high ∷ []
upper_bound_lexemes unbounded = symbols (codes "?")

-- `[` low `:` high `]`, or nothing
abbrev pub bounds_lexemes : Option Bounds → List Lexeme
bounds_lexemes None = []
bounds_lexemes (Some bounds) = symbols (codes "[") ++ digits bounds.low ∷ symbols (codes ":") ++ upper_bound_lexemes bounds.high ++ symbols (codes "]")

-- the lexemes of a type
abbrev pub type_lexemes : WrittenType → List Lexeme
type_lexemes integer_type = word (codes "INTEGER")
type_lexemes (real_type precision) = word (codes "REAL") ++ precision_lexemes precision
type_lexemes number_type = word (codes "NUMBER")
type_lexemes boolean_type = word (codes "BOOLEAN")
type_lexemes logical_type = word (codes "LOGICAL")
type_lexemes (string_type width) = word (codes "STRING") ++ width_lexemes width
type_lexemes (binary_type width) = word (codes "BINARY") ++ width_lexemes width
type_lexemes (named_type name) = word name
type_lexemes (array_type bounds optional unique element) = word (codes "ARRAY") ++ bounds_lexemes (Some bounds) ++ word (codes "OF") ++ optional_word optional (codes "OPTIONAL") ++ optional_word unique (codes "UNIQUE") ++ type_lexemes element
type_lexemes (list_type bounds unique element) = word (codes "LIST") ++ bounds_lexemes bounds ++ word (codes "OF") ++ optional_word unique (codes "UNIQUE") ++ type_lexemes element
type_lexemes (set_type bounds element) = word (codes "SET") ++ bounds_lexemes bounds ++ word (codes "OF") ++ type_lexemes element
type_lexemes (bag_type bounds element) = word (codes "BAG") ++ bounds_lexemes bounds ++ word (codes "OF") ++ type_lexemes element

-- what is named is a name
abbrev pub IsWrittenType : WrittenType → Type 0
IsWrittenType (named_type name) = IsName name
IsWrittenType (array_type bounds optional unique element) = IsWrittenType element
IsWrittenType (list_type bounds unique element) = IsWrittenType element
IsWrittenType (set_type bounds element) = IsWrittenType element
IsWrittenType (bag_type bounds element) = IsWrittenType element
IsWrittenType other = Unit {0}

-- how many aggregate types stand one in another
abbrev pub nesting : WrittenType → ℕ
nesting (array_type bounds optional unique element) = suc (nesting element)
nesting (list_type bounds unique element) = suc (nesting element)
nesting (set_type bounds element) = suc (nesting element)
nesting (bag_type bounds element) = suc (nesting element)
nesting other = 0
