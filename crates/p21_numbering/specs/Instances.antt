-- The instances of a file, without addresses.
use Rattle.std.specs.Prelude.{◌≡◌, ◌<◌, ℕ, List, [], map, length, slice_index_or, Some, Contains}
use Rattle.p21_spec_basics.proofs.Shuffles.{Shuffled}
use Rattle.p21_spec_exchange.specs.DataSection.{Heading}
use Rattle.p21_spec_file.specs.File.{FileMeaning}
use Rattle.p21_spec_file.specs.Meaning.{Typed}
use Rattle.p21_spec_numbering.specs.Numbered.{heading_label}
use Rattle.p21_spec_numbering.specs.Renamed.{names}
use Rattle.p21_mapping_values.specs.TypedView.{typed_view}
use Rattle.p21_numbering.specs.declared.instances.Instance.{Instance as Code}
use Rattle.p21_numbering.specs.Rows.{lent_rows}

-- its name, the texts of the heading of its section, and what its record means
pub record Instance : Type 0 where
  pub name : ℕ
  pub heading : List (List ℕ)
  pub typed : Typed

abbrev pub file_instance : Code → Instance
file_instance i = record { name = i.name; heading = lent_rows i.heading.now; typed = typed_view i.typed }

abbrev pub file_instances : List Code → List Instance
file_instances all = map file_instance all

abbrev pub no_instance : Instance
no_instance = record { name = 0; heading = []; typed = record { entities = []; values = [] } }

abbrev pub instance_at : List Instance → ℕ → Instance
instance_at all k = slice_index_or all k no_instance

abbrev pub names_of : List Instance → List ℕ
names_of all = map (λ i. i.name) all

-- it stands in the file, in a section with this heading
pub record IsInstanceOf (m : FileMeaning) (i : Instance) : Type 0 where
  pub section : Heading
  pub instance : Contains m.instances (i.name, i.typed)
  pub in_section : Contains m.instance_sections (i.name, section)
  pub heading_is : i.heading ≡ heading_label (Some section)

-- each instance of the file, once, in any order
pub record AreInstancesOf (m : FileMeaning) (all : List Instance) : Type 0 where
  pub names_are : Shuffled (names_of all) (names m)
  pub each : (k : ℕ) → k < length all → IsInstanceOf m (instance_at all k)
