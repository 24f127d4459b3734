-- What `SELF\supertype.name` stands for (ISO 10303-11, Attribute redeclaration).
use Rattle.std.specs.Prelude.{◌≡◌, ◌⊎◌, ℕ, List}
use Rattle.p21_spec_schema.specs.Redeclaration.{IsProperSupertype, IsOwnPlace, IsPlaceOf, RedeclaresPlace, HasNoPlace}
use Rattle.p21_spec_schema.specs.Schema as pure
use Rattle.p21_spec_schema.specs.Schema.{Schema}
use Rattle.p21_express_graph.specs.Meaning.{place as place_of}
use Rattle.p21_express.specs.declared.lookups.RedeclarationTarget.{RedeclarationTarget}
use Rattle.p21_express.specs.declared.lookups.RedeclarationTarget.TheVariants.{Place, Missing, Unclear}

-- the place that the supertype declares itself, else the only one of that name in its order
abbrev pub IsPlaceIn : Schema → ℕ → List ℕ → pure.Place → Type 0
IsPlaceIn s sup name place = IsOwnPlace s sup name place
    ⊎ (((other : pure.Place) → ¬ IsOwnPlace s sup name other) × IsPlaceOf s sup name place
    × ((other : pure.Place) → IsPlaceOf s sup name other → other ≡ place))

-- it has this place, or none of the name, or several
abbrev pub IsTargetIn : Schema → ℕ → List ℕ → RedeclarationTarget → Type 0
IsTargetIn s sup name (Place place) = IsPlaceIn s sup name (place_of place)
IsTargetIn s sup name (Missing found) = (found.0 ≡ sup) × HasNoPlace s sup name
IsTargetIn s sup name Unclear = ((place : pure.Place) → IsPlaceIn s sup name place → ⊥) × (HasNoPlace s sup name → ⊥)

-- the only proper supertype of the name, which has no place of the other name
pub record IsMissing (s : Schema) (e : ℕ) (supertype name : List ℕ) (sup : ℕ) : Type 0 where
  pub proper : IsProperSupertype s e sup supertype
  pub only : (other : ℕ) → IsProperSupertype s e other supertype → other ≡ sup
  pub none : HasNoPlace s sup name
  pub no_place : (place : pure.Place) → RedeclaresPlace s e supertype name place → ⊥

-- a place, or a proper supertype without one, or neither
abbrev pub IsTargetOf : Schema → ℕ → List ℕ → List ℕ → RedeclarationTarget → Type 0
IsTargetOf s e supertype name (Place place) = RedeclaresPlace s e supertype name (place_of place)
IsTargetOf s e supertype name (Missing sup) = IsMissing s e supertype name sup.0
IsTargetOf s e supertype name Unclear = ((place : pure.Place) → RedeclaresPlace s e supertype name place → ⊥)
    × ((sup : ℕ) → IsProperSupertype s e sup supertype → HasNoPlace s sup name → ⊥)
