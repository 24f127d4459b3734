-- What is left out of a list of differences where that is asked for: those of the header, those of attributes that are named, and values
-- within a tolerance.
use Rattle.std.specs.Prelude.{◌≡◌, ◌⊎◌, ℕ, Bool, true, false, IsTrue, List, [], ◌∷◌, Option, None, Some, Contains}
use Rattle.p21_spec_differences.specs.Difference.{AreBeside, AreMeant, Difference, Differs, IsOfHeader, parameter_changed, value_changed}
use Rattle.p21_spec_differences.specs.HeaderNames.{IsHeaderKeyword, IsParameterName, keyword_text}
use Rattle.p21_spec_differences.specs.Near.{IsNearAt}
use Rattle.p21_spec_exchange.specs.Number.{Ratio}
use Rattle.p21_spec_exchange.specs.Record.{Part}
use Rattle.p21_spec_file.specs.File.{FileMeaning}
use Rattle.p21_spec_file.specs.Meaning.{Typed}
use Rattle.p21_spec_schema.specs.Schema.{EntityNamed, Place, PlaceNamed, Schema}
use Rattle.p21_spec_schema.specs.Supertype.{IsA}

-- an attribute by its name, `ENTITY.ATTRIBUTE`
pub record AttributeName : Type 0 where
  pub entity : List ℕ
  pub attribute : List ℕ

-- what is to be left out: the header, attributes, and values within a tolerance, if there is one
pub record LeftOut : Type 0 where
  pub header : Bool
  pub attributes : List AttributeName
  pub tolerance : Option Ratio

-- something is
abbrev pub leaves_out : LeftOut → Bool
leaves_out left = elim left.header [
  | true ↦ true
  | false ↦ elim left.tolerance [
    | Some tolerance ↦ true
    | None ↦ elim left.attributes [ [] ↦ false | (name ∷ names) ↦ true ]
  ]
]

-- ---- attributes

-- `ENTITY.ATTRIBUTE` is the attribute at the place, which the entity of this number declares itself or has of a supertype
pub record IsAttributeOf (s : Schema) (name : AttributeName) (entity : ℕ) (place : Place) : Type 0 where
  pub named : EntityNamed s entity name.entity
  pub has : IsA s entity place.entity
  pub attribute : PlaceNamed s place name.attribute

-- the schema has the attribute
abbrev pub IsKnown : Schema → AttributeName → Type 0
IsKnown s name = (entity : ℕ) × (place : Place) × IsAttributeOf s name entity place

-- it has it, or a header record may have it
abbrev pub MayBeMeant : Schema → AttributeName → Type 0
MayBeMeant s name = IsKnown s name ⊎ IsHeaderKeyword name.entity

-- the name is that of the attribute at a place of an instance, which is of these entities
abbrev pub NamesPlace : Schema → AttributeName → List ℕ → Place → Type 0
NamesPlace s name entities place = (entity : ℕ) × IsAttributeOf s name entity place × Contains entities entity

-- one of the names is that of the attribute at a place of an instance of these entities
abbrev pub IsIgnored : Schema → List AttributeName → List ℕ → Place → Type 0
IsIgnored s names entities place = (name : AttributeName) × Contains names name × NamesPlace s name entities place

-- one of them is that of a parameter of a header record, by the keyword
abbrev pub IsIgnoredParameter : List AttributeName → Part → ℕ → Type 0
IsIgnoredParameter names part number =
    (name : AttributeName) × Contains names name × (name.entity ≡ keyword_text part.key) × IsParameterName part number name.attribute

-- the difference is that of an attribute that is left out
abbrev pub IsOfIgnored : Schema → List AttributeName → FileMeaning → FileMeaning → Difference → Type 0
IsOfIgnored s names a b (parameter_changed number place) =
    (first second : Part) × AreBeside a.header b.header number first second × IsIgnoredParameter names first place
IsOfIgnored s names a b (value_changed name place) = (x : Typed) × Contains a.instances (name, x) × IsIgnored s names x.entities place
IsOfIgnored s names a b other = ⊥

-- ---- values

-- the difference is that of an instance's values that are within the tolerance
abbrev pub IsNear : Schema → Option Ratio → FileMeaning → FileMeaning → Difference → Type 0
IsNear s tolerance a b (value_changed name place) = (x y : Typed) × AreMeant a b name x y × IsNearAt s tolerance x y place
IsNear s tolerance a b other = ⊥

-- ---- differences

abbrev pub IsLeftOut : Schema → LeftOut → FileMeaning → FileMeaning → Difference → Type 0
IsLeftOut s left a b d =
    (IsTrue left.header × IsOfHeader d) ⊎ (IsOfIgnored s left.attributes a b d ⊎ IsNear s left.tolerance a b d)

-- this differs, and isn't left out
abbrev pub IsToList : Schema → LeftOut → FileMeaning → FileMeaning → Difference → Type 0
IsToList s left a b d = Differs a b d × ¬ IsLeftOut s left a b d
