-- What selects offer, in tables: for each type a list of entities, and one of types that are no selects.
use Rattle.std.specs.Prelude.{◌≡◌, ◌↔◌, ℕ, Bool, true, false, cond, List, [], ◌∷◌, Option, Some, length, Contains}
use Rattle.std.specs.List.Sorted.{IsStrictlyIncreasing}
use Rattle.p21_spec_schema.specs.Schema.{Schema, Member, entity_member, type_member, Kind, choice, kind_of}
use Rattle.p21_spec_schema.specs.Select.{Offers}
use Rattle.p21_express_graph.specs.Resolved.{IsType}
use Rattle.p21_express_graph.specs.SettledOrder.{nexts_of}

-- the members of a select, and none of another type
abbrev pub members_of : Kind → List Member
members_of (choice members) = members
members_of other = []

abbrev pub is_choice : Option Kind → Bool
is_choice (Some (choice members)) = true
is_choice other = false

-- the entities among members
abbrev pub entity_numbers : List Member → List ℕ
entity_numbers [] = []
entity_numbers (entity_member e ∷ members) = e ∷ entity_numbers members
entity_numbers (type_member t ∷ members) = entity_numbers members

-- the types
abbrev pub type_numbers : List Member → List ℕ
type_numbers [] = []
type_numbers (entity_member e ∷ members) = type_numbers members
type_numbers (type_member t ∷ members) = t ∷ type_numbers members

-- and the types that are no selects
abbrev pub plain_numbers : Schema → List Member → List ℕ
plain_numbers s [] = []
plain_numbers s (entity_member e ∷ members) = plain_numbers s members
plain_numbers s (type_member t ∷ members) = cond (is_choice (kind_of s t)) (plain_numbers s members) (t ∷ plain_numbers s members)

-- the table has for each type the numbers of such members that it offers, in rising order
pub record AreOffered (s : Schema) (member : ℕ → Member) (lists : List (List ℕ)) : Type 0 where
  pub size : length lists ≡ length s.types
  pub each : (t : ℕ) → IsType s t → (x : ℕ) → Contains (nexts_of lists t) x ↔ Offers s t (member x)
  pub rising : (t : ℕ) → IsStrictlyIncreasing (nexts_of lists t)
