-- What the calls on whole files answer.
use Rattle.std.specs.Prelude.{Option, ◌≡◌, ◌↔◌, ℕ, Bool, List, length, IsTrue}
use Rattle.std.specs.Io.KnownBytes.{Appends, Keeps}
use Rattle.p21_spec_basics.specs.Limits.{Limits}
use Rattle.p21_spec_laws.specs.CanonicalLaws.{MeanTheSame}
use Rattle.p21_spec_exchange.specs.Grammar.{InGrammar}
use Rattle.p21_spec_exchange.specs.Laying.{LaidAs, Lexeme}
use Rattle.p21_spec_exchange.specs.Structure.{Structure}
use Rattle.p21_spec_file.specs.Accepted.{IsAccepted, IsCanonicalFile, Means}
use Rattle.p21_spec_file.specs.Canonical.{Canonical}
use Rattle.p21_spec_file.specs.File.{FileMeaning, Reads}
use Rattle.p21_spec_file.specs.SameFile.{SameFileMeaning}
use Rattle.p21_spec_schema.specs.Schema.{Schema}
use Rattle.p21_stream.specs.ReaderInput.{IsReadWhole, RefusesRead, read_failures}
use Rattle.p21_stream.specs.declared.comparing.Which.{Which}
use Rattle.p21_stream.specs.declared.comparing.Which.TheVariants.{First, Second}
use Rattle.p21_stream_statements.specs.declared.fault.Fault.{Fault}
use Rattle.p21_stream_statements.specs.declared.fault.Fault.TheVariants.{Write}
use Rattle.p21_stream_io.specs.Transfer.{AppendsPartOf}

-- ---- one canonical file

-- The canonical file of accepted bytes: it is itself accepted, means what they mean, is its own canonical file, and no other
-- canonical bytes mean the same
pub record IsOnlyCanonicalFile (s : Schema) (limits : Limits) (bytes text : List ℕ) : Type 0 where
  pub is_canonical : IsCanonicalFile s limits bytes text
  pub is_accepted : IsAccepted s limits text
  pub means_the_same : MeanTheSame s limits text bytes
  pub is_its_own : IsCanonicalFile s limits text text
  pub only : (meaning : FileMeaning) → Means s limits bytes meaning → (other : List ℕ) (c : Canonical s other)
      → SameFileMeaning c.meaning meaning → other ≡ text

-- Bytes are read in one way: they have one list of tokens, each of one size; one tree, with one text of a schema in its
-- header; and one meaning
pub record AreReadInOneWay (s : Schema) (bytes : List ℕ) : Type 0 where
  pub one_laying : (lexemes others : List Lexeme) → LaidAs bytes lexemes → LaidAs bytes others → lexemes ≡ others
  pub one_tree : (structure other : Structure) (text other_text : List ℕ) → InGrammar bytes structure text
      → InGrammar bytes other other_text → (structure ≡ other) × (text ≡ other_text)
  pub one_meaning : (m n : FileMeaning) → Reads s bytes m → Reads s bytes n → m ≡ n

-- the reader was read to its end, and this is the canonical file of what it gave
pub record IsCanonicalOfRead (s : Schema) (limits : Limits) (old new : Option (List ℕ)) (text : List ℕ) : Type 0 where
  pub bytes : List ℕ
  pub read : IsReadWhole old new bytes
  pub canonical : IsOnlyCanonicalFile s limits bytes text
  pub in_one_way : AreReadInOneWay s bytes

-- ---- written

-- the writer got the canonical file of what the reader gave, of so many bytes
pub record IsWritten (s : Schema) (limits : Limits) (reader_old reader_new writer_old writer_new : Option (List ℕ))
    (size : ℕ) : Type 0 where
  pub text : List ℕ
  pub canonical : IsCanonicalOfRead s limits reader_old reader_new text
  pub written : Appends writer_old writer_new text
  pub size_is : size ≡ length text

-- a write failed, and the writer got only a part of it
pub record IsPartWritten (s : Schema) (limits : Limits) (reader_old reader_new writer_old writer_new : Option (List ℕ)) : Type 0 where
  pub text : List ℕ
  pub canonical : IsCanonicalOfRead s limits reader_old reader_new text
  pub part : AppendsPartOf writer_old writer_new text

-- what a fault says of what was read and written: all but a write fault leave the writer as it was
abbrev pub FailsToWrite : Schema → Limits → Option (List ℕ) → Option (List ℕ) → Option (List ℕ) → Option (List ℕ) → Fault → Type 0
FailsToWrite s limits reader_old reader_new writer_old writer_new Write = IsPartWritten s limits reader_old reader_new writer_old writer_new
FailsToWrite s limits reader_old reader_new writer_old writer_new fault = RefusesRead s limits reader_old reader_new fault
    × Keeps writer_old writer_new

-- ---- compared

-- both were read to their ends; the answer is whether they mean the same, and whether their canonical files are equal
pub record Compares (s : Schema) (limits : Limits) (first_old first_new second_old second_new : Option (List ℕ))
    (same : Bool) : Type 0 where
  pub first_text : List ℕ
  pub second_text : List ℕ
  pub first : IsCanonicalOfRead s limits first_old first_new first_text
  pub second : IsCanonicalOfRead s limits second_old second_new second_text
  pub if_same : IsTrue same ↔ MeanTheSame s limits first.bytes second.bytes
  pub if_equal : IsTrue same ↔ (first_text ≡ second_text)

-- the first is refused, and the second isn't read; or the first is accepted and the second refused
abbrev pub FailsToCompare : Schema → Limits → Option (List ℕ) → Option (List ℕ) → Option (List ℕ) → Option (List ℕ) → Which → Fault → Type 0
FailsToCompare s limits first_old first_new second_old second_new First fault = RefusesRead s limits first_old first_new fault
    × Keeps second_old second_new
FailsToCompare s limits first_old first_new second_old second_new Second fault =
    ((text : List ℕ) × IsCanonicalOfRead s limits first_old first_new text) × RefusesRead s limits second_old second_new fault

-- what holds where it is the first that is refused
abbrev pub IfFirst : Which → Type 0 → Type 0
IfFirst First holds = holds
IfFirst Second holds = Unit {0}

-- the failures of each reader
abbrev pub first_failures : ℕ → Which → Fault → ℕ
first_failures count First fault = read_failures count fault
first_failures count Second fault = count

abbrev pub second_failures : ℕ → Which → Fault → ℕ
second_failures count First fault = count
second_failures count Second fault = read_failures count fault
