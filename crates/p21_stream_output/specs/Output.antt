-- The bytes of a canonical file from its lines.
use Rattle.std.specs.Prelude.{◌≡◌, ℕ, List, [], ◌∷◌, ◌++◌, codes, Contains}
use Rattle.std.specs.List.{flat_map, AllByRecursion as Each}
use Rattle.p21_spec_exchange.specs.Spelling.{name_spelling}
use Rattle.p21_spec_exchange.specs.Text.{IsGraphic}
use Rattle.p21_stream_store.specs.StoredInstance.{StoredInstance}

-- a data section: its DATA with its `;`, and the statements of its instances
pub record WrittenSection : Type 0 where
  pub line : List ℕ
  pub texts : List (List ℕ)

-- the lines of the header records, each with its LF; the data sections; the instances, in whatever order; and the number of the
-- statement that was open at the end of the source, of which no byte of the file tells
pub record Output : Type 0 where
  pub header : List ℕ
  pub sections : List WrittenSection
  pub kept : List StoredInstance
  pub statement : ℕ

-- a text and an LF
abbrev pub line_of : List ℕ → List ℕ
line_of text = text ++ (10 ∷ [])

abbrev pub lines_of : List (List ℕ) → List ℕ
lines_of texts = flat_map line_of texts

-- a section from its DATA to its ENDSEC
abbrev pub section_text : WrittenSection → List ℕ
section_text written = line_of written.line ++ (lines_of written.texts ++ line_of (codes "ENDSEC;"))

abbrev pub sections_text : List WrittenSection → List ℕ
sections_text sections = flat_map section_text sections

-- what stands before the data sections
abbrev pub header_text : List ℕ → List ℕ
header_text header = (line_of (codes "ISO-10303-21;") ++ line_of (codes "HEADER;")) ++ (header ++ line_of (codes "ENDSEC;"))

-- the whole file
abbrev pub written_text : List ℕ → List WrittenSection → List ℕ
written_text header sections = header_text header ++ (sections_text sections ++ line_of (codes "END-ISO-10303-21;"))

abbrev pub output_text : Output → List ℕ
output_text o = written_text o.header o.sections

-- a text of bytes 20 to 7E alone begins with the name of an instance and `=`
abbrev pub IsNamed : ℕ → List ℕ → Type 0
IsNamed name text = ((record_ : List ℕ) × (text ≡ name_spelling name ++ (61 ∷ record_))) × Each IsGraphic text

-- a text stands in a file between two LF
pub record IsWholeLine (text file : List ℕ) : Type 0 where
  pub before : List ℕ
  pub after : List ℕ
  pub stands : file ≡ before ++ (10 ∷ (text ++ (10 ∷ after)))

-- a text is the line of the instance of this name in a file: it holds no LF
pub record IsLineOf (name : ℕ) (text file : List ℕ) : Type 0 where
  pub named : IsNamed name text
  pub alone : IsWholeLine text file

-- each instance has its line in the file
abbrev pub HasLines : Output → Type 0
HasLines o = Each (λ (x : StoredInstance). IsLineOf x.name x.text (output_text o)) o.kept

-- the line of the instance of this name stands in a data section that begins with this line
pub record IsSectionLine (o : Output) (name : ℕ) (line : List ℕ) : Type 0 where
  pub section : WrittenSection
  pub among : Contains o.sections section
  pub line_is : section.line ≡ line
  pub text : List ℕ
  pub stands : Contains section.texts text
  pub named : IsNamed name text
