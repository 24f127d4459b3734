-- The canonical file: one spelling for each token, one text for each meaning (this project's own form of an exchange
-- structure of ISO 10303-21).
use Rattle.std.specs.Prelude.{◌≡◌, ℕ, List, map}
use Rattle.std.specs.List.{AllZip, flat_map, AllByRecursion as Each}
use Rattle.std.specs.List.Sorted.{IsStrictlySortedBy}
use Rattle.std.specs.Ordering.{nat_cmp}
use Rattle.std.specs.Cmp.Lexicographic.{slice_cmp}
use Rattle.p21_spec_file.specs.CanonicalRecord.{IsCanonicalRecord}
use Rattle.p21_spec_exchange.specs.CanonicalText.{line}
use Rattle.p21_spec_exchange.specs.DataSection.{Heading, DataSection, headings, instances_in, section_names}
use Rattle.p21_spec_file.specs.File.{FileMeaning, Reads}
use Rattle.p21_spec_schema.specs.Schema.{Schema}
use Rattle.p21_spec_exchange.specs.Spelling.{text_spelling}
use Rattle.p21_spec_exchange.specs.Structure.{statements}

-- byte by byte, the spelling of each section's name is above the one before it; a spelling is below what it begins
abbrev pub AreSectionsRising : List Heading → Type 0
AreSectionsRising found = IsStrictlySortedBy (slice_cmp nat_cmp) (map text_spelling (section_names found))

-- the instance names of a section rise
abbrev pub AreNamesRising : DataSection → Type 0
AreNamesRising x = IsStrictlySortedBy nat_cmp (map (λ i. i.0) x.instances)

-- The bytes read, and are the lines of the tree's statements; sections rise by their names, instance names rise within
-- each section, and each record is canonical
pub record Canonical (s : Schema) (bytes : List ℕ) : Type 0 where
  pub meaning : FileMeaning
  pub reads : Reads s bytes meaning
  pub lines : bytes ≡ flat_map line (statements reads.structure)
  pub sections_rise : AreSectionsRising (headings reads.structure.sections)
  pub names_rise : Each AreNamesRising reads.structure.sections
  pub canonical_records : AllZip (λ written meant. IsCanonicalRecord s written.1 meant.1) (instances_in reads.structure.sections) meaning.instances
