-- Numbers for the instances of a file, which their names don't count for, and the file with these numbers as names.
use Rattle.std.specs.Prelude.{ℕ, List, [], ◌∷◌, ◌++◌, Option, Some, None, slice_get, nat_eq, if◌then◌else◌}
use Rattle.p21_spec_exchange.specs.DataSection.{Heading, unnamed, named}
use Rattle.p21_spec_file.specs.File.{FileMeaning}
use Rattle.p21_spec_file.specs.Meaning.{Typed}
use Rattle.p21_spec_file.specs.Value.{Values}
use Rattle.p21_spec_file.specs.ValueText.{list_text, value_texts}
use Rattle.p21_spec_schema.specs.Schema.{Schema}
use Rattle.p21_spec_numbering.specs.Graph.{Graph}
use Rattle.p21_spec_numbering.specs.Renamed.{renamed_values, names}
use Rattle.p21_spec_numbering.specs.Uses.{typed_uses, places_to}

-- what stands beside the number
abbrev pub found : {X : Type 0} → List (ℕ × X) → ℕ → Option X
found [] n = None
found (i ∷ is) n = if nat_eq i.0 n then Some i.1 else found is n

-- the name of the entity of this number
abbrev pub entity_name : Schema → ℕ → List ℕ
entity_name s e = elim (slice_get s.entities e) [ Some x ↦ x.name | None ↦ [] ]

-- the entities of a set, each with the texts of its values, where each reference is written #0
abbrev pub unnamed_text : Schema → List ℕ → List Values → List ℕ
unnamed_text s [] rows = []
unnamed_text s (e ∷ es) [] = []
unnamed_text s (e ∷ es) (vs ∷ rows) = entity_name s e ++ (list_text (value_texts s (renamed_values (λ _. 0) vs)) ++ unnamed_text s es rows)

abbrev pub heading_label : Option Heading → List (List ℕ)
heading_label None = []
heading_label (Some unnamed) = []
heading_label (Some (named name schema)) = name ∷ schema ∷ []

abbrev pub typed_label : Schema → Option Typed → List (List ℕ)
typed_label s None = []
typed_label s (Some x) = unnamed_text s x.entities x.values ∷ []

abbrev pub places_in : Option Typed → ℕ → List (List ℕ)
places_in None n = []
places_in (Some x) n = places_to n (typed_uses x)

-- The instances of a file: labelled by the heading of the section and by the values with no names in them, and joined by
-- the places at which they refer to one another
abbrev pub graph_of : Schema → FileMeaning → Graph
graph_of s m = record {
  nodes = names m;
  label = λ n. heading_label (found m.instance_sections n) ++ typed_label s (found m.instances n);
  places = λ m_ n. places_in (found m.instances m_) n;
}
