-- The place that `SELF\entity.name` redeclares (ISO 10303-11, Attribute redeclaration; Qualified attribute reference).
use Rattle.std.specs.Prelude.{◌≡◌, ◌≢◌, ℕ, ◌⊎◌, List, Contains}
use Rattle.p21_spec_schema.specs.Schema.{Schema, Place, EntityNamed, PlaceNamed}
use Rattle.p21_spec_schema.specs.Supertype.{IsA}
use Rattle.p21_spec_schema.specs.Order.{places}

-- the name is that of a proper supertype
abbrev pub IsProperSupertype : Schema → ℕ → ℕ → List ℕ → Type 0
IsProperSupertype s e sup name = EntityNamed s sup name × IsA s e sup × (sup ≢ e)

-- a place of this name that the entity declares itself
abbrev pub IsOwnPlace : Schema → ℕ → List ℕ → Place → Type 0
IsOwnPlace s e name place = (place.entity ≡ e) × PlaceNamed s place name

-- a place of this name that the entity or a supertype of it declares
abbrev pub IsPlaceOf : Schema → ℕ → List ℕ → Place → Type 0
IsPlaceOf s e name place = Contains (places s e) place × PlaceNamed s place name

-- the place that the proper supertype declares itself, else the only one of that name in its order
abbrev pub RedeclaresPlace : Schema → ℕ → List ℕ → List ℕ → Place → Type 0
RedeclaresPlace s e supertype name place = (sup : ℕ) × IsProperSupertype s e sup supertype
    × (IsOwnPlace s sup name place
    ⊎ (((other : Place) → ¬ IsOwnPlace s sup name other) × IsPlaceOf s sup name place × ((other : Place) → IsPlaceOf s sup name other → other ≡ place)))

-- the proper supertype has no place of this name
abbrev pub HasNoPlace : Schema → ℕ → List ℕ → Type 0
HasNoPlace s sup name = (place : Place) → ¬ IsPlaceOf s sup name place
