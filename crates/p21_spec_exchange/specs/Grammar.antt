-- Bytes that are an exchange structure (ISO 10303-21, formal definition of the exchange structure; header section; data sections).
use Rattle.std.specs.Prelude.{ℕ, ◌<◌, List, length}
use Rattle.std.specs.List.{AllByRecursion as Each}
use Rattle.p21_spec_exchange.specs.DataSection.{AreHeadings, headings, instances_in}
use Rattle.p21_spec_exchange.specs.Header.{IsHeader}
use Rattle.p21_spec_exchange.specs.Laying.{Laid}
use Rattle.p21_spec_exchange.specs.Nesting.{IsShallow}
use Rattle.p21_spec_exchange.specs.Record.{Part, Record, parts_of, record_tokens}
use Rattle.p21_spec_exchange.specs.Structure.{Structure, tokens_of}
use Rattle.p21_spec_exchange.specs.Token.{Token, user_keyword}

-- a simple record whose parameters are not nested too deep
abbrev pub IsShallowPart : Part → Type 0
IsShallowPart part = IsShallow part.params

-- a token that is no user keyword
abbrev pub IsNoUserKeyword : Token → Type 0
IsNoUserKeyword (user_keyword word) = ⊥
IsNoUserKeyword other = Unit {0}

-- a record of the data section: one simple record at least, none nested too deep, and no user keyword
pub record IsDataRecord (record_ : Record) : Type 0 where
  pub some_parts : 0 < length (parts_of record_)
  pub shallow : Each IsShallowPart (parts_of record_)
  pub no_user_keywords : Each IsNoUserKeyword (record_tokens record_)

-- a tree that a file may have; `schema` is the text of its FILE_SCHEMA
pub record IsFile (structure : Structure) (schema : List ℕ) : Type 0 where
  pub header : IsHeader structure.header schema
  pub shallow_header : Each IsShallowPart structure.header
  pub headings_are : AreHeadings (headings structure.sections)
  pub data_records : Each (λ i. IsDataRecord i.1) (instances_in structure.sections)

-- the tokens of the tree are laid in the bytes
pub record InGrammar (bytes : List ℕ) (structure : Structure) (schema : List ℕ) : Type 0 where
  pub laid : Laid bytes (tokens_of structure)
  pub is_file : IsFile structure schema
