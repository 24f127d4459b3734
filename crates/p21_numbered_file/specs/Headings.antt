-- How data sections begin, by the records that begin them.
use Rattle.std.specs.Prelude.{◌≡◌, ℕ, List, map, Option, Some, None}
use Rattle.std.specs.List.{AllZip}
use Rattle.std.specs.Global.{Vec}
use denote.Ref.{Bor}
use Rattle.p21_spec_exchange.specs.DataSection.{Heading, heading_of, unnamed}
use Rattle.p21_spec_numbering.specs.Numbered.{heading_label}
use Rattle.p21_grammar_tree.specs.View.{items_of, views}
use Rattle.p21_grammar_tree.specs.declared.record.Part.{Part}
use Rattle.p21_numbering.specs.Rows.{lent_rows}

-- how a section begins
abbrev pub heading_in : Option Part → Heading
heading_in None = unnamed
heading_in (Some part) = heading_of (views (items_of part.params))

abbrev pub headings_in : List (Option Part) → List Heading
headings_in sections = map heading_in sections

-- the name and the schema text of a section, if it has a name
abbrev pub label_in : Option Part → List (List ℕ)
label_in section = heading_label (Some (heading_in section))

-- these are the texts of each section
abbrev pub AreTextsOf : List (Option Part) → List (Vec (Bor (List ℕ))) → Type 0
AreTextsOf sections all = AllZip (λ (section : Option Part) (texts : Vec (Bor (List ℕ))). lent_rows texts.items ≡ label_in section) sections
    all
