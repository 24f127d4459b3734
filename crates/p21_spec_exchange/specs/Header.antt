-- The shape of the header section (ISO 10303-21, header section: FILE_DESCRIPTION, FILE_NAME, FILE_SCHEMA).
use Rattle.std.specs.Prelude.{◌≡◌, ◌≢◌, ℕ, ◌⊎◌, List, [], ◌∷◌, codes}
use Rattle.std.specs.List.{AllZip, AllByRecursion as Each}
use Rattle.p21_spec_exchange.specs.Parameter.{Param, text, dollar, list, Params, no_params, param, listed, key_of}
use Rattle.p21_spec_exchange.specs.Record.{Part, part_tokens}
use Rattle.p21_spec_exchange.specs.Token.{Token, name}

-- what an attribute of a header record is declared as: a string or a list of strings
pub data HeaderType : Type 0 where
  string : HeaderType
  strings : HeaderType

-- a text or `$`
abbrev pub IsTextOrUnset : Param → Type 0
IsTextOrUnset p = (p ≡ dollar) ⊎ ((chars : List ℕ) × (p ≡ text chars))

-- a text or `$`; a list, possibly empty, of such, or `$`
abbrev pub IsOfType : HeaderType → Param → Type 0
IsOfType string p = IsTextOrUnset p
IsOfType strings p = (p ≡ dollar) ⊎ ((ps : Params) × (p ≡ list ps) × Each IsTextOrUnset (listed ps))

-- a header record with this keyword, and parameters of these types
abbrev pub IsHeaderRecord : List ℕ → List HeaderType → Part → Type 0
IsHeaderRecord word types part = (part.key ≡ key_of word) × AllZip IsOfType types (listed part.params)

-- description and implementation_level
abbrev pub IsFileDescription : Part → Type 0
IsFileDescription = IsHeaderRecord (codes "FILE_DESCRIPTION") (strings ∷ string ∷ [])

-- name, time_stamp, author, organization, preprocessor_version, originating_system and authorization
abbrev pub IsFileName : Part → Type 0
IsFileName = IsHeaderRecord (codes "FILE_NAME") (string ∷ string ∷ strings ∷ strings ∷ string ∷ string ∷ string ∷ [])

-- schema_identifiers: a list of exactly one text
abbrev pub IsFileSchema : Part → List ℕ → Type 0
IsFileSchema part chars = (part.key ≡ key_of (codes "FILE_SCHEMA")) × (part.params ≡ param (list (param (text chars) no_params)) no_params)

-- a token that is no instance name
abbrev pub IsNoInstanceName : Token → Type 0
IsNoInstanceName (name n) = ⊥
IsNoInstanceName other = Unit {0}

-- a record with another keyword than these three, kept as it is; it holds no instance name
pub record IsFurtherRecord (part : Part) : Type 0 where
  pub no_file_description : part.key ≢ key_of (codes "FILE_DESCRIPTION")
  pub no_file_name : part.key ≢ key_of (codes "FILE_NAME")
  pub no_file_schema : part.key ≢ key_of (codes "FILE_SCHEMA")
  pub no_names : Each IsNoInstanceName (part_tokens part)

-- the three records in their order, then further ones; `schema` is the text of the third
pub record IsHeader (header : List Part) (schema : List ℕ) : Type 0 where
  pub file_description : Part
  pub file_name : Part
  pub file_schema : Part
  pub further : List Part
  pub header_is : header ≡ file_description ∷ file_name ∷ file_schema ∷ further
  pub is_file_description : IsFileDescription file_description
  pub is_file_name : IsFileName file_name
  pub is_file_schema : IsFileSchema file_schema schema
  pub are_further : Each IsFurtherRecord further
