-- The instances of a file as they are numbered, from those that were read.
use Rattle.std.specs.Prelude.{ℕ, List, [], slice_get, Some, None}
use Rattle.std.specs.Global.{Vec}
use denote.Ref.{Bor}
use Rattle.p21_mapping_values.specs.TypedView.{typed_view}
use Rattle.p21_numbering.specs.Instances.{Instance}
use Rattle.p21_numbering.specs.Rows.{lent_rows}
use Rattle.p21_numbered_file.specs.declared.read_file.ReadInstance.{ReadInstance}

-- the texts of the section of this number
abbrev pub texts_at : List (Vec (Bor (List ℕ))) → ℕ → List (List ℕ)
texts_at texts section = elim (slice_get texts section) [ Some row ↦ lent_rows row.items | None ↦ [] ]

abbrev pub instance_in : List (Vec (Bor (List ℕ))) → ReadInstance → Instance
instance_in texts i = record { name = i.name; heading = texts_at texts i.section; typed = typed_view i.typed }
