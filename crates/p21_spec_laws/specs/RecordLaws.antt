-- The laws of instances: what their records mean, and their canonical texts.
use Rattle.std.specs.Prelude.{◌≡◌, ◌↔◌, ℕ, List}
use Rattle.p21_spec_schema.specs.WellFormed.{IsWellFormed}
use Rattle.p21_spec_laws.specs.Written.{IsWrittenStatement}
use Rattle.p21_spec_exchange.specs.Grammar.{IsDataRecord}
use Rattle.p21_spec_exchange.specs.Record.{Record}
use Rattle.p21_spec_exchange.specs.Statement.{Statement, instance}
use Rattle.p21_spec_file.specs.CanonicalTexts.{HaveCanonicalSize, IsInstanceText}
use Rattle.p21_spec_file.specs.Meaning.{RecordMeans, Typed}
use Rattle.p21_spec_file.specs.Reference.{EntitySets}
use Rattle.p21_spec_file.specs.SameFile.{SameTyped}
use Rattle.p21_spec_schema.specs.Schema.{Schema}

-- a record has one meaning, whatever the other instances are
abbrev pub OneMeaningOfRecord : Type 0
OneMeaningOfRecord = (s : Schema) → IsWellFormed s → (kinds others : EntitySets) (record_ : Record) (a b : Typed) → RecordMeans s kinds record_ a → RecordMeans s others record_ b → a ≡ b

-- an instance that a file may have, whose record means something, has a canonical text
abbrev pub InstanceHasText : Type 0
InstanceHasText = (s : Schema) → IsWellFormed s → (kinds : EntitySets) (n : ℕ) (record_ : Record) (meaning : Typed) → RecordMeans s kinds record_ meaning → IsDataRecord record_ → IsWrittenStatement (instance n record_)
    → (text : List ℕ) × IsInstanceText s n record_ text

-- and one only, whatever the other instances are
abbrev pub OneTextOfInstance : Type 0
OneTextOfInstance = (s : Schema) → IsWellFormed s → (n : ℕ) (record_ : Record) (text other : List ℕ) → IsInstanceText s n record_ text → IsInstanceText s n record_ other → text ≡ other

-- two instances, of one file or of two, have one name and mean the same exactly if their canonical texts are equal
abbrev pub TextsTellInstances : Type 0
TextsTellInstances = (s : Schema) → IsWellFormed s → (kinds others : EntitySets) (n m : ℕ) (record_ other : Record) (a b : Typed) (text other_text : List ℕ) → RecordMeans s kinds record_ a → RecordMeans s others other b
    → IsInstanceText s n record_ text → IsInstanceText s m other other_text → ((n ≡ m) × SameTyped a b) ↔ (text ≡ other_text)

-- the bytes that are kept of statements are one number
abbrev pub OneCanonicalSize : Type 0
OneCanonicalSize = (s : Schema) → IsWellFormed s → (statements : List Statement) (kept other : ℕ) → HaveCanonicalSize s statements kept → HaveCanonicalSize s statements other → kept ≡ other
