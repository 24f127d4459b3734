-- What is written, by the positions of the instances that are stored.
use Rattle.std.specs.List.{AllByRecursion as Each}
use Rattle.std.specs.List.Sorted.{IsNonDecreasingBy}
use Rattle.std.specs.Prelude.{◌≡◌, ◌<◌, ◌^◌, ℕ, List, length, map, Contains}
use Rattle.p21_stream_output.specs.declared.accepted.Section.{Section}
use Rattle.p21_stream_output.specs.Output.{Output, WrittenSection}
use Rattle.p21_stream_store.specs.StoredInstance.{StoredInstance, instance_names, name_at, text_at}

abbrev pub texts_at : List StoredInstance → List ℕ → List (List ℕ)
texts_at kept instance_positions = map (text_at kept) instance_positions

-- the positions are those of instances
abbrev pub ArePositions : List StoredInstance → List ℕ → Type 0
ArePositions kept instance_positions = Each (λ (place : ℕ). place < length kept) instance_positions

abbrev pub HavePositions : List StoredInstance → List Section → Type 0
HavePositions kept sections = Each (λ (x : Section). ArePositions kept x.instance_positions) sections

-- each section has its positions by rising names, and each instance stands in one
pub record AreFiled (kept : List StoredInstance) (sections : List Section) : Type 0 where
  pub rise : Each (λ (x : Section). IsNonDecreasingBy (name_at kept) x.instance_positions) sections
  pub whole : (place : ℕ) → place < length kept → (x : Section) × Contains sections x × Contains x.instance_positions place

abbrev pub written_section : List StoredInstance → Section → WrittenSection
written_section kept x = record { line = x.line.items; texts = texts_at kept x.instance_positions }

abbrev pub output_of : List ℕ → List Section → List StoredInstance → ℕ → Output
output_of header sections kept statement = record {
  header = header;
  sections = map (written_section kept) sections;
  kept =
      kept;
  statement = statement;
}

-- an instance of this name stands at one of the positions
abbrev pub HasNameAmong : List StoredInstance → List ℕ → ℕ → Type 0
HasNameAmong kept instance_positions name = (place : ℕ) × Contains instance_positions place × (name_at kept place ≡ name)

-- no name is above 64 bits
abbrev pub HaveSmallNames : List StoredInstance → Type 0
HaveSmallNames kept = (name : ℕ) → Contains (instance_names kept) name → name < 2 ^ 64
