-- The statements of an exchange structure and their tokens (ISO 10303-21, formal definition of the exchange structure;
-- header section; data sections).
use Rattle.std.specs.Prelude.{ℕ, List, [], ◌∷◌, ◌++◌, codes}
use Rattle.p21_spec_exchange.specs.DataSection.{Heading, unnamed, named, data_part}
use Rattle.p21_spec_exchange.specs.Record.{Part, Record, part_tokens, record_tokens}
use Rattle.p21_spec_exchange.specs.Token as token
use Rattle.p21_spec_exchange.specs.Token.{Token, keyword, name, equals, semicolon}

-- a line that begins or ends the file or a section
pub data SectionLine : Type 0 where
  begin : SectionLine
  header_start : SectionLine
  section_end : SectionLine
  data_start : Heading → SectionLine
  finish : SectionLine

-- a statement: a section line, a header record, or an instance with its name
pub data Statement : Type 0 where
  section : SectionLine → Statement
  header : Part → Statement
  instance : ℕ → Record → Statement

-- the tokens of a section line, its `;` apart
abbrev pub section_tokens : SectionLine → List Token
section_tokens begin = token.begin ∷ []
section_tokens header_start = keyword (codes "HEADER") ∷ []
section_tokens section_end = keyword (codes "ENDSEC") ∷ []
section_tokens (data_start unnamed) = keyword (codes "DATA") ∷ []
section_tokens (data_start (named chars schema)) = part_tokens (data_part chars schema)
section_tokens finish = token.finish ∷ []

-- the tokens of a statement, its `;` the last
abbrev pub statement_tokens : Statement → List Token
statement_tokens (section line) = section_tokens line ++ (semicolon ∷ [])
statement_tokens (header part) = part_tokens part ++ (semicolon ∷ [])
statement_tokens (instance n record_) = name n ∷ equals ∷ (record_tokens record_ ++ (semicolon ∷ []))
