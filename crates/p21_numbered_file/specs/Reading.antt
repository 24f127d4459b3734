-- What is read of a file that reads, statement by statement, and what the whole of it is.
use Rattle.std.specs.Prelude.{◌≡◌, ◌≤◌, ◌+◌, ℕ, List, ◌∷◌, ◌++◌, length, map, take, drop, slice_get, Option, Some, None, Result, Ok, Err, Contains}
use Rattle.std.specs.List.{flat_map, AllByRecursion as Each}
use Rattle.p21_spec_exchange.specs.CanonicalText.{line}
use Rattle.p21_spec_exchange.specs.DataSection.{Heading}
use Rattle.p21_spec_exchange.specs.Statement.{Statement, header}
use Rattle.p21_spec_exchange.specs.Structure.{statements}
use Rattle.p21_spec_file.specs.File.{FileMeaning, Reads}
use Rattle.p21_spec_file.specs.Meaning.{Typed}
use Rattle.p21_spec_laws.specs.Among.{parts_among}
use Rattle.p21_spec_laws.specs.Taken.{headings_among, instances_among}
use Rattle.p21_spec_schema.specs.Schema.{Schema}
use Rattle.p21_mapping_values.specs.TypedView.{typed_view}
use Rattle.p21_numbering.specs.NodesOf.{HasKnownParts}
use Rattle.p21_stream_statements.specs.StatementReader.{Held, IsLive, IsSeenAt, StatementHistory}
use Rattle.p21_values.specs.declared.fault.NoMemory.{NoMemory}
use Rattle.p21_numbered_file.specs.Headings.{headings_in}
use Rattle.p21_numbered_file.specs.declared.read_file.ReadFile.{ReadFile}
use Rattle.p21_numbered_file.specs.declared.read_file.ReadInstance.{ReadInstance}

-- the instance with what it means
abbrev pub meant_of : ReadInstance → ℕ × Typed
meant_of i = (i.name, typed_view i.typed)

-- it stands in the section of this number, and its parts are known
pub record IsPlaced (s : Schema) (m : FileMeaning) (i : ReadInstance) : Type 0 where
  pub heading : Heading
  pub section_is : slice_get m.sections i.section ≡ Some heading
  pub in_section : Contains m.instance_sections (i.name, heading)
  pub known : HasKnownParts s (typed_view i.typed)

-- this is read of the first statements of a file that means this
pub record IsReadTo (s : Schema) (m : FileMeaning) (given : List Statement) (read : ReadFile) : Type 0 where
  pub header_is : read.header.items ≡ flat_map line (map header (parts_among given))
  pub headings_are : headings_in read.sections.items ≡ headings_among given
  pub as_many : length read.instances.items ≡ length (instances_among given)
  pub later : List (ℕ × Typed)
  pub instances_are : m.instances ≡ map meant_of read.instances.items ++ later
  pub placed : Each (IsPlaced s m) read.instances.items

-- the statement stands next in a file that reads
pub record StandsNext (s : Schema) (read : ReadFile) (statement : Statement) : Type 0 where
  pub bytes : List ℕ
  pub meaning : FileMeaning
  pub reads : Reads s bytes meaning
  pub given : List Statement
  pub later : List Statement
  pub are : statements reads.structure ≡ given ++ statement ∷ later
  pub is_read : IsReadTo s meaning given read

-- ---- a text

-- so many bytes of the text are taken, in so many rounds at least
pub record IsUnderWay (s : Schema) (text : List ℕ) (held : Held) (read : ReadFile) (from rounds : ℕ) : Type 0 where
  pub meaning : FileMeaning
  pub reads : Reads s text meaning
  pub reading : StatementHistory
  pub live : IsLive held reading
  pub taken_are : reading.taken ≡ take from text
  pub seen_at : IsSeenAt reading.seen (drop from text) 0
  pub is_read : IsReadTo s meaning reading.given read
  pub rounds_few : rounds ≤ length live.history.given

-- all of them are
pub record IsReadWhole (s : Schema) (text : List ℕ) (held : Held) (read : ReadFile) : Type 0 where
  pub meaning : FileMeaning
  pub reads : Reads s text meaning
  pub given : List Statement
  pub live : IsLive held (record { taken = text; seen = None; given = given })
  pub is_read : IsReadTo s meaning given read

-- one token more, or none is left
abbrev pub Advances : Schema → List ℕ → Held → ReadFile → ℕ → Result (Option ℕ) NoMemory → Held → ReadFile → Type 0
Advances s text held read from (Ok (Some next)) new after = (rounds : ℕ) → IsUnderWay s text held read from rounds
    → IsUnderWay s text new after next (rounds + 1)
Advances s text held read from (Ok None) new after = (rounds : ℕ) → IsUnderWay s text held read from rounds → IsReadWhole s text new after
Advances s text held read from (Err fault) new after = Unit {0}

-- ---- the whole of it

-- the bytes read, and this is what they say
pub record IsReadOf (s : Schema) (bytes : List ℕ) (read : ReadFile) : Type 0 where
  pub meaning : FileMeaning
  pub reads : Reads s bytes meaning
  pub header_is : read.header.items ≡ flat_map line (map header meaning.header)
  pub headings_are : headings_in read.sections.items ≡ meaning.sections
  pub instances_are : map meant_of read.instances.items ≡ meaning.instances
  pub placed : Each (IsPlaced s meaning) read.instances.items
