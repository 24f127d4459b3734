-- Data sections as they are stored, with the number of each by its name.
use Rattle.std.specs.Prelude.{◌≡◌, ℕ, List, [], ◌∷◌, map, Option, Some, None, slice_get}
use Rattle.std.specs.Prelude as std
use Rattle.std.specs.BTreeMap.{BTreeMap, get_by}
use Rattle.std.specs.Cmp.Lexicographic.{slice_cmp}
use Rattle.std.specs.Ordering.{nat_cmp}
use Rattle.std.specs.declared.alloc.Global.{Global}
use Rattle.p21_spec_exchange.specs.DataSection.{Heading, heading_of, named, unnamed}
use Rattle.p21_grammar_tree.specs.View.{items_of, views}
use Rattle.p21_grammar_tree.specs.declared.record.Part.{Part}
use Rattle.p21_stream_syntax.specs.declared.sections.Section.{Section}

-- how a section begins
abbrev pub heading_in : Option Part → Heading
heading_in None = unnamed
heading_in (Some part) = heading_of (views (items_of part.params))

abbrev pub headings_of : List Section → List Heading
headings_of sections = map (λ (x : Section). heading_in x.part) sections

-- the characters of a name, where there is one
abbrev pub names_in : Option (std.Vec ℕ Global) → List (List ℕ)
names_in None = []
names_in (Some name) = name.items ∷ []

-- the number by a name
abbrev pub number_of : BTreeMap (std.Vec ℕ Global) ℕ → List ℕ → Option ℕ
number_of numbers name = get_by (λ (key : std.Vec ℕ Global). slice_cmp nat_cmp name key.items) numbers

-- each name leads to its section, and each section with a name stands under it
pub record AreNamedBy (numbers : BTreeMap (std.Vec ℕ Global) ℕ) (headings : List Heading) : Type 0 where
  pub found : (name : List ℕ) (number : ℕ) → number_of numbers name ≡ Some number
      → (schema : List ℕ) × (slice_get headings number ≡ Some (named name schema))
  pub kept : (name schema : List ℕ) (number : ℕ) → slice_get headings number ≡ Some (named name schema)
      → number_of numbers name ≡ Some number
