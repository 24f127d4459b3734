-- The laws of differences.
use Rattle.std.specs.Prelude.{◌≡◌, ◌↔◌, ℕ, List, Contains}
use Rattle.std.specs.List.{AllZip}
use Rattle.p21_spec_exchange.specs.DataSection.{Heading}
use Rattle.p21_spec_file.specs.File.{FileMeaning, Reads}
use Rattle.p21_spec_file.specs.Meaning.{Typed}
use Rattle.p21_spec_file.specs.SameFile.{HaveSameMembers, SameFileMeaning, SamePart, SameTyped}
use Rattle.p21_spec_numbering.specs.Renamed.{names}
use Rattle.p21_spec_schema.specs.Schema.{Schema}
use Rattle.p21_spec_schema.specs.WellFormed.{IsWellFormed}
use Rattle.p21_spec_differences.specs.Difference.{Difference, Differs, IsOfHeader, IsOfName, IsOfSections}

-- what holds of the meanings of two byte lists that read under one schema
abbrev pub OfTwoFiles : (FileMeaning → FileMeaning → Type 0) → Type 0
OfTwoFiles Holds = (s : Schema) → IsWellFormed s → (bytes others : List ℕ) (a b : FileMeaning) → Reads s bytes a → Reads s others b → Holds a b

-- two files mean the same exactly if nothing differs
abbrev pub NothingDiffersInTheSame : Type 0
NothingDiffersInTheSame = OfTwoFiles (λ a b. SameFileMeaning a b ↔ ((d : Difference) → ¬ Differs a b d))

-- nothing differs in header sections exactly if their records are the same
abbrev pub HeadersAreTold : Type 0
HeadersAreTold = OfTwoFiles (λ a b. AllZip SamePart a.header b.header ↔ ((d : Difference) → IsOfHeader d → ¬ Differs a b d))

-- nor in data sections exactly if both files have the same
abbrev pub SectionsAreTold : Type 0
SectionsAreTold = OfTwoFiles (λ a b. HaveSameMembers a.sections b.sections ↔ ((d : Difference) → IsOfSections d → ¬ Differs a b d))

-- of a name both files say the same: both have an instance of it or neither has, and where they have, it means the same and stands in
-- the same section
pub record SaySame (a b : FileMeaning) (name : ℕ) : Type 0 where
  pub both : Contains (names a) name ↔ Contains (names b) name
  pub same : (first second : Typed) → Contains a.instances (name, first) → Contains b.instances (name, second) → SameTyped first second
  pub section : (first second : Heading) → Contains a.instance_sections (name, first) → Contains b.instance_sections (name, second) → first ≡ second

-- that is so exactly if nothing differs about the name
abbrev pub NamesAreTold : Type 0
NamesAreTold = OfTwoFiles (λ a b. (name : ℕ) → SaySame a b name ↔ ((d : Difference) → IsOfName name d → ¬ Differs a b d))
