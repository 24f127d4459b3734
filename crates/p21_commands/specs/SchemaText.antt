-- The text that is printed of a schema, put together word by word.
use Rattle.std.specs.Prelude.{◌&&◌, ◌||◌, ℕ, Bool, true, false, List, [], ◌∷◌, ◌++◌, Option, Some, None, codes, length, map, nat_eq, slice_get}
use Rattle.std.specs.List.{flat_map, range_with_len}
use Rattle.p21_spec_file.specs.ValueText.{list_text, with_commas, with_commas_between}
use Rattle.p21_spec_schema.specs.Order.{order, places}
use Rattle.p21_spec_schema.specs.Schema.{Attribute, Entity, Schema, Place, attribute_at}

abbrev pub is_place : Place → Place → Bool
is_place p q = nat_eq p.entity q.entity && nat_eq p.index q.index

abbrev pub has_place : Place → List Place → Bool
has_place p [] = false
has_place p (q ∷ qs) = is_place p q || has_place p qs

-- the places that an entity redeclares as derived attributes
abbrev pub derived_in : Option Entity → List Place
derived_in (Some x) = x.derived
derived_in None = []

abbrev pub derived_of : Schema → ℕ → List Place
derived_of s e = derived_in (slice_get s.entities e)

abbrev pub attribute_name : Option Attribute → List ℕ
attribute_name (Some a) = a.name
attribute_name None = []

abbrev pub name_or_star : Bool → List ℕ → List ℕ
name_or_star true name = codes "*"
name_or_star false name = name

-- the word of a place in the line of an entity
abbrev pub word_of : Schema → ℕ → Place → List ℕ
word_of s e place = name_or_star (has_place place (flat_map (derived_of s) (order s e))) (attribute_name (attribute_at s place))

abbrev pub words_of : Schema → ℕ → List Place → List (List ℕ)
words_of s e all = map (word_of s e) all

abbrev pub prefix_if : Bool → List ℕ
prefix_if true = codes "ABSTRACT "
prefix_if false = []

abbrev pub prefix_in : Option Entity → List ℕ
prefix_in (Some x) = prefix_if x.is_abstract
prefix_in None = []

abbrev pub name_in : Option Entity → List ℕ
name_in (Some x) = x.name
name_in None = []

abbrev pub entity_prefix : Schema → ℕ → List ℕ
entity_prefix s e = prefix_in (slice_get s.entities e)

abbrev pub entity_name : Schema → ℕ → List ℕ
entity_name s e = name_in (slice_get s.entities e)

abbrev pub entity_line : Schema → ℕ → List ℕ
entity_line s e = entity_prefix s e ++ (entity_name s e ++ (list_text (words_of s e (places s e)) ++ codes "\n"))

abbrev pub entity_lines : Schema → List ℕ
entity_lines s = flat_map (λ line. line) (map (entity_line s) (range_with_len 0 (length s.entities)))

abbrev pub schema_text : Schema → List ℕ
schema_text s = codes "SCHEMA " ++ (s.name ++ (codes "\n" ++ entity_lines s))

-- words of a list, behind others of it if there are some
abbrev pub joined : Bool → List (List ℕ) → List ℕ
joined true words = with_commas words
joined false words = with_commas_between words

-- whether words stand in a list, with these behind them
abbrev pub are_some : Bool → List (List ℕ) → Bool
are_some before [] = before
are_some before (word ∷ words) = true

abbrev pub comma_if : Bool → List ℕ
comma_if true = codes ","
comma_if false = []
