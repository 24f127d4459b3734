-- The accepted file of what a session has kept.
use Rattle.std.specs.List.{AllZip, IsDistinct, AllByRecursion as Each}
use Rattle.std.specs.Prelude.{◌≡◌, ℕ, List, [], length, map, nat_eq, slice_get, Option, Some, None}
use Rattle.std.specs.Str.{bytes_eq}
use Rattle.p21_spec_laws.specs.CompleteFile.{Block, Line}
use Rattle.p21_spec_laws.specs.Keeping.{AreBlocksOf, Kept, text_with_header}
use Rattle.p21_spec_laws.specs.OutputLaws.{lines_of}
use Rattle.p21_spec_laws.specs.Stored.{StoredEntry}
use Rattle.p21_spec_exchange.specs.DataSection.{section_names}
use Rattle.p21_stream_output.specs.Output.{IsNamed, Output, output_text}
use Rattle.p21_stream_output.specs.NamedSections.{HasHeading}
use Rattle.p21_stream_output.specs.declared.named_sections.NamedSection.{NamedSection}
use Rattle.p21_stream_store.specs.Memberships.{Membership}
use Rattle.p21_stream_store.specs.StoredInstance as store

-- an instance with its membership, if it has the number of one
abbrev pub stored_with : Option Membership → store.StoredInstance → StoredEntry
stored_with (Some membership) kept = record {
  name = kept.name;
  section = membership.section;
  entities = membership.entities;
  text =
      kept.text;
}
stored_with None kept = record { name = kept.name; section = 0; entities = []; text = kept.text }

abbrev pub stored_of : List Membership → List store.StoredInstance → List StoredEntry
stored_of memberships instances = map (λ (x : store.StoredInstance). stored_with (slice_get memberships x.membership) x) instances

-- what is kept stands in these: the header lines, the sections as they begin, the memberships and the instances
pub record IsKeptIn (kept : Kept) (header : List ℕ) (parts : List NamedSection) (memberships : List Membership)
    (instances : List store.StoredInstance) : Type 0 where
  pub header_is : kept.header ≡ header
  pub begins : AllZip HasHeading kept.headings parts
  pub stored_is : kept.stored ≡ stored_of memberships instances

-- no two sections have one name, nor two instances
pub record HasNamesOnce (kept : Kept) : Type 0 where
  pub sections : IsDistinct bytes_eq (section_names kept.headings)
  pub instances : IsDistinct nat_eq (map (λ (x : StoredEntry). x.name) kept.stored)

-- what stands in these and is kept has a file of so many bytes
pub record HasSize (header : List ℕ) (parts : List NamedSection) (memberships : List Membership) (instances : List store.StoredInstance)
    (size : ℕ) : Type 0 where
  pub kept : Kept
  pub stands : IsKeptIn kept header parts memberships instances
  pub once : HasNamesOnce kept
  pub size_is : (blocks : List Block) → AreBlocksOf kept blocks → length (text_with_header kept.header blocks) ≡ size

-- the text of each instance begins with its name
abbrev pub AreNamed : List store.StoredInstance → Type 0
AreNamed instances = Each (λ (x : store.StoredInstance). IsNamed x.name x.text) instances

-- an instance as its name and its text
abbrev pub line_of : store.StoredInstance → Line
line_of x = (x.name, x.text)

-- the file of what is kept: the blocks of its sections, with their text, and each instance that is stored
pub record IsFileOfKept (kept : Kept) (output : Output) : Type 0 where
  pub blocks : List Block
  pub are_blocks : AreBlocksOf kept blocks
  pub text_is : output_text output ≡ text_with_header kept.header blocks
  pub lines_are : map line_of output.kept ≡ lines_of kept.stored
