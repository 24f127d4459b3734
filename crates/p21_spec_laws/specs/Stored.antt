-- The instances that were taken, as a store keeps them, in whatever order.
use Rattle.std.specs.Prelude.{◌≡◌, ℕ, List, [], map, Contains}
use Rattle.std.specs.List.Sorted.{IsPermutation}
use Rattle.p21_spec_laws.specs.CompleteFile.{Block, Entry, SectionEntries, Line, lines_in}
use Rattle.p21_spec_laws.specs.UnrefusedStatements.{numbered_entries_in}
use Rattle.p21_spec_exchange.specs.DataSection.{Heading}
use Rattle.p21_spec_file.specs.SameFile.{HaveSameMembers}

-- the name of an instance, the number of its section counted from the first, its set of entities, and its canonical text, which
-- is empty where lines aren't kept
pub record StoredEntry : Type 0 where
  pub name : ℕ
  pub section : ℕ
  pub entities : List ℕ
  pub text : List ℕ

abbrev pub lines_of : List StoredEntry → List Line
lines_of stored = map (λ (x : StoredEntry). (x.name, x.text)) stored

-- what is kept of an earlier file: the bytes of its header lines, the headings of its data sections, and its instances with their
-- lines
pub record Earlier : Type 0 where
  pub header : List ℕ
  pub headings : List Heading
  pub stored : List StoredEntry

-- what is kept of the lines of instances: each line; none, where they are counted; or none, where each is held against those of an
-- earlier file
pub data KeptLines : Type 0 where
  with_lines : KeptLines
  without_lines : KeptLines
  beside : Earlier → KeptLines

-- what is kept of a text
abbrev pub kept_text : KeptLines → List ℕ → List ℕ
kept_text with_lines text = text
kept_text without_lines text = []
kept_text (beside earlier) text = []

-- a line is one of the earlier file, if there is one
abbrev pub IsAmongEarlier : KeptLines → Line → Type 0
IsAmongEarlier with_lines l = Unit {0}
IsAmongEarlier without_lines l = Unit {0}
IsAmongEarlier (beside earlier) l = Contains (lines_of earlier.stored) l

abbrev pub stored_of : KeptLines → ℕ × Entry → StoredEntry
stored_of lines numbered = record { name = numbered.1.name; section = numbered.0; entities = numbered.1.meaning.entities; text = kept_text lines numbered.1.text }

abbrev pub stored_in : KeptLines → List SectionEntries → List StoredEntry
stored_in lines groups = map (stored_of lines) (numbered_entries_in groups)

-- these are kept of the instances of the sections, with their lines or without, each once, in whatever order
abbrev pub IsStore : KeptLines → List SectionEntries → List StoredEntry → Type 0
IsStore lines groups kept = IsPermutation (stored_in lines groups) kept

-- the lines of the section of this number
abbrev pub AreLinesOf : List StoredEntry → ℕ → List Line → Type 0
AreLinesOf kept number lines = ((x : StoredEntry) → Contains kept x → x.section ≡ number → Contains lines (x.name, x.text)) × ((l : Line) → Contains lines l → (x : StoredEntry) × Contains kept x × (x.section ≡ number) × ((x.name, x.text) ≡ l))

-- a block with the heading and the lines of a data section
abbrev pub IsBlockOf : SectionEntries → Block → Type 0
IsBlockOf g b = (b.heading ≡ g.heading) × HaveSameMembers b.lines (lines_in g.entries)
