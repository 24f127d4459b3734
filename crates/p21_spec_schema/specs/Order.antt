-- The order of an entity and its supertypes, and of their attributes, in an instance (ISO 10303-21, Mapping of EXPRESS
-- entity data types: internal mapping).
use Rattle.std.specs.Prelude.{ℕ, zero, suc, List, [], ◌∷◌, ◌++◌, length, map, filter, not, nat_eq}
use Rattle.std.specs.List.{flat_map, enumerate_from}
use Rattle.p21_spec_schema.specs.Schema.{Schema, Place, attributes_of}
use Rattle.p21_spec_schema.specs.Supertype.{supertypes_of}

-- each at its first occurrence only
abbrev pub first_occurrences : List ℕ → List ℕ
first_occurrences [] = []
first_occurrences (e ∷ es) = e ∷ filter (λ f. not (nat_eq e f)) (first_occurrences es)

-- the orders of the supertypes as listed, then the entity itself, each entity once; with this many levels of supertypes
abbrev pub order_within : Schema → ℕ → ℕ → List ℕ
order_within s zero e = e ∷ []
order_within s (suc levels) e = first_occurrences (flat_map (order_within s levels) (supertypes_of s e) ++ e ∷ [])

-- where no supertypes come back, there are no more levels than entities
abbrev pub order : Schema → ℕ → List ℕ
order s e = order_within s (length s.entities) e

-- the places that an entity declares itself
abbrev pub own_places : Schema → ℕ → List Place
own_places s e = map (λ p. record { entity = e; index = p.0 }) (enumerate_from 0 (attributes_of s e))

-- the places of an entity, in the order of internal mapping
abbrev pub places : Schema → ℕ → List Place
places s e = flat_map (own_places s) (order s e)
