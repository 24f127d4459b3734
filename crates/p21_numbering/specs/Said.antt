-- What an instance says in a section, as texts.
use Rattle.std.specs.Prelude.{ℕ, List, ◌∷◌, ◌++◌, Some}
use Rattle.std.specs.List.{flat_map}
use Rattle.p21_spec_exchange.specs.DataSection.{Heading}
use Rattle.p21_spec_file.specs.Meaning.{Typed}
use Rattle.p21_spec_file.specs.ValueText.{value_texts}
use Rattle.p21_spec_schema.specs.Schema.{Schema}
use Rattle.p21_spec_numbering.specs.Numbered.{heading_label}

-- the numbers of its entities, the text of each value, and the texts of the heading
abbrev pub said_in : Schema → List (List ℕ) → Typed → List (List ℕ)
said_in s heading x = x.entities ∷ (flat_map (value_texts s) x.values ++ heading)

abbrev pub said : Schema → Heading → Typed → List (List ℕ)
said s h x = said_in s (heading_label (Some h)) x
