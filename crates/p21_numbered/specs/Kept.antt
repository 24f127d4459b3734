-- What is kept of a file whose instances have other names, as a store keeps it.
use Rattle.std.specs.Prelude.{◌≡◌, ℕ, List, map, slice_get, Some, Contains}
use Rattle.std.specs.List.{flat_map}
use Rattle.p21_spec_exchange.specs.CanonicalText.{line}
use Rattle.p21_spec_exchange.specs.DataSection.{Heading}
use Rattle.p21_spec_exchange.specs.Statement.{header}
use Rattle.p21_spec_file.specs.File.{FileMeaning}
use Rattle.p21_spec_file.specs.Meaning.{Typed}
use Rattle.p21_spec_laws.specs.Keeping.{Kept}
use Rattle.p21_spec_laws.specs.Stored.{StoredEntry}
use Rattle.p21_spec_numbering.specs.Renamed.{renamed_typed}
use Rattle.p21_spec_schema.specs.Schema.{Schema}
use Rattle.p21_canon.specs.Statement.{IsCanonicalStatement}

-- the instance of this name, which means this and stands in a section with this heading, as it is stored under its new name
pub record IsEntryUnder (s : Schema) (f : ℕ → ℕ) (headings : List Heading) (n : ℕ) (x : Typed) (h : Heading) (e : StoredEntry) : Type
    0 where
  pub name_is : e.name ≡ f n
  pub in_section : slice_get headings e.section ≡ Some h
  pub line_is : IsCanonicalStatement s (f n) (renamed_typed f x) e.text

-- the header and the sections of the file, and each of its instances under its new name
pub record IsKeptUnder (s : Schema) (m : FileMeaning) (f : ℕ → ℕ) (kept : Kept) : Type 0 where
  pub header_is : kept.header ≡ flat_map line (map header m.header)
  pub headings_are : kept.headings ≡ m.sections
  pub onto : (n : ℕ) (x : Typed) (h : Heading) → Contains m.instances (n, x) → Contains m.instance_sections (n, h)
      → (e : StoredEntry) × Contains kept.stored e × IsEntryUnder s f kept.headings n x h e
  pub back : (e : StoredEntry) → Contains kept.stored e
      → (n : ℕ) × (x : Typed) × (h : Heading) × Contains m.instances (n, x) × Contains m.instance_sections (n, h)
      × IsEntryUnder s f kept.headings n x h e
