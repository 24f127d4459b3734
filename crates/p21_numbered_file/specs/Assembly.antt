-- What is put together of header lines, data sections and lines of instances.
use Rattle.std.specs.Prelude.{◌≡◌, ◌<◌, ℕ, true, List, [], map, length, Option, zip, IsPermutation}
use Rattle.std.specs.List.{IsDistinct, range_with_len, AllByRecursion as Each}
use Rattle.std.specs.Str.{bytes_eq}
use Rattle.p21_spec_basics.proofs.Shuffles.{NoneTwice}
use Rattle.p21_spec_exchange.specs.DataSection.{AreHeadings, section_names}
use Rattle.p21_spec_laws.specs.CompleteFile.{Block, Line}
use Rattle.p21_spec_laws.specs.Keeping.{AreBlocksOf, Kept, text_with_header}
use Rattle.p21_spec_laws.specs.Stored.{StoredEntry, lines_of, with_lines}
use Rattle.p21_grammar_tree.specs.declared.record.Part.{Part}
use Rattle.p21_stream_output.specs.Ending.{line_of}
use Rattle.p21_stream_output.specs.Output.{IsNamed, Output, output_text}
use Rattle.p21_stream_store.specs.Memberships.{Membership}
use Rattle.p21_stream_store.specs.StoredInstance.{StoredInstance}
use Rattle.p21_numbered_file.specs.Headings.{headings_in}

-- a membership for each of so many sections
abbrev pub section_membership : ℕ → Membership
section_membership section = record { section = section; entities = [] }

abbrev pub section_memberships : ℕ → List Membership
section_memberships many = map section_membership (range_with_len 0 many)

-- a line with the number of its section
abbrev pub stored_row : ℕ × Line → StoredInstance
stored_row row = record { name = row.1.0; membership = row.0; text = row.1.1 }

abbrev pub stored_rows : List ℕ → List Line → List StoredInstance
stored_rows places lines = map stored_row (zip places lines)

abbrev pub entry_row : ℕ × Line → StoredEntry
entry_row row = record { name = row.1.0; section = row.0; entities = []; text = row.1.1 }

abbrev pub entry_rows : List ℕ → List Line → List StoredEntry
entry_rows places lines = map entry_row (zip places lines)

abbrev pub line_names : List Line → List ℕ
line_names lines = map (λ (l : Line). l.0) lines

-- each line is of a section, no two have one name, and each begins with its own; the sections are those of a file
pub record IsReady (sections : List (Option Part)) (places : List ℕ) (lines : List Line) : Type 0 where
  pub as_many : length places ≡ length lines
  pub of_sections : Each (λ (k : ℕ). k < length sections) places
  pub once : NoneTwice (line_names lines)
  pub named : Each (λ (l : Line). IsNamed l.0 l.1) lines
  pub headings : AreHeadings (headings_in sections)
  pub sections_once : IsDistinct bytes_eq (section_names (headings_in sections))

-- as a store keeps it
abbrev pub put_together : List ℕ → List (Option Part) → List StoredEntry → Kept
put_together header sections stored =
    record {
      lines = with_lines;
      equal = true;
      header = header;
      headings = headings_in sections;
      stored = stored;
      waiting = [];
      references =
          0;
      bytes = 0;
      framing = 0;
    }

-- the file of these, with the lines in whatever order
pub record IsPutTogether (header : List ℕ) (sections : List (Option Part)) (places : List ℕ) (lines : List Line) (output : Output) : Type
    0 where
  pub stored : List StoredEntry
  pub are_rows : IsPermutation (entry_rows places lines) stored
  pub blocks : List Block
  pub are_blocks : AreBlocksOf (put_together header sections stored) blocks
  pub text_is : output_text output ≡ text_with_header header blocks
  pub lines_are : map line_of output.kept ≡ lines_of stored
