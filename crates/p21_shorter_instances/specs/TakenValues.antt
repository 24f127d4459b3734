-- Values that are taken straight from their bytes.
use Rattle.std.specs.Prelude.{◌≡◌, ℕ, ◌≤◌, Bool, List, [], ◌∷◌, ◌++◌, codes, drop, length, map}
use Rattle.p21_spec_laws.specs.Needs.{FitsAtWithNeeds, FitsWithNeeds}
use Rattle.p21_spec_exchange.specs.Nesting.{depth}
use Rattle.p21_spec_exchange.specs.Parameter as parameter
use Rattle.p21_spec_exchange.specs.Parameter.{Param, param_tokens}
use Rattle.p21_spec_exchange.specs.Separator.{IsSeparatorText}
use Rattle.p21_spec_exchange.specs.Token as token
use Rattle.p21_spec_exchange.specs.Token.{Token, Spells, IsFollowed}
use Rattle.p21_schema.specs.Base.{HasBase, IsBase}
use Rattle.p21_schema.specs.declared.base.Base.{Base}
use Rattle.p21_express_graph.specs.Resolved.{IsTypeUse}
use Rattle.p21_spec_file.specs.Reference as meant
use Rattle.p21_spec_file.specs.Value.{Value, reference}
use Rattle.p21_spec_file.specs.ValueText.{value_text}
use Rattle.p21_mapping_values.specs.declared.need.Need.{Need}
use Rattle.p21_mapping_values.specs.TypedView.{need_view}
use Rattle.p21_spec_schema.specs.PlaceType.{PlaceType, stored_place}
use Rattle.p21_spec_schema.specs.Schema.{Member, Schema, TypeNamed, TypeUse, type_member}
use Rattle.p21_spec_schema.specs.Select.{Offers}
use Rattle.p21_shorter_tokens.specs.LeadingToken.{IsLeadingToken}
use Rattle.p21_shorter_instances.specs.declared.taken.Taken.{Taken}
use Rattle.p21_shorter_instances.specs.declared.value.Stored.{Stored}

-- the tokens are laid at the front of the bytes, separator text before each, and behind the last one stands the rest
abbrev pub LaidBefore : List ℕ → List Token → List ℕ → Type 0
LaidBefore bytes [] rest = bytes ≡ rest
LaidBefore bytes (token ∷ tokens) rest =
    (gap spelling behind : List ℕ) × (bytes ≡ gap ++ (spelling ++ behind)) × IsSeparatorText gap × Spells token spelling
    × IsFollowed token spelling behind × LaidBefore behind tokens rest

-- a parameter that fits is laid at the front, with the rest behind it, and the canonical text of the value that it stands
-- for is appended; lists and typed parameters stand at most so deep in it
pub record TakesValue (s : Schema) (Fits : Param → Value → Type 0) (most : ℕ) (bytes rest old new : List ℕ) : Type 0 where
  pub parameter : Param
  pub value : Value
  pub fits : Fits parameter value
  pub shallow : depth parameter ≤ most
  pub laid : LaidBefore bytes (param_tokens parameter) rest
  pub text_is : new ≡ old ++ value_text s value

-- with this text, and the needs as they are
abbrev pub with_text : List ℕ → Taken → Taken
with_text text taken = record { draft = text; needs = taken.needs }

-- the same of a parameter that has needs, which are added to those before
pub record TakesWithNeeds (s : Schema) (Fits : Param → Value → List meant.Need → Type 0) (most : ℕ) (bytes rest : List ℕ)
    (old new : Taken) : Type 0 where
  pub added : List Need
  pub needs_are : new.needs.items ≡ old.needs.items ++ added
  pub takes : TakesValue s (λ p v. Fits p v (map need_view added)) most bytes rest old.draft new.draft

-- the same of a parameter that so many bytes at the front are
abbrev pub TakesFront : Schema → (Param → Value → List meant.Need → Type 0) → ℕ → List ℕ → ℕ → Taken → Taken → Type 0
TakesFront s Fits most bytes count old new = (count ≤ length bytes) × TakesWithNeeds s Fits most bytes (drop count bytes) old new

-- the same of a parameter in parentheses, which are appended with it
pub record TakesEnclosed (s : Schema) (Fits : Param → Value → List meant.Need → Type 0) (most : ℕ) (bytes rest : List ℕ)
    (old new : Taken) : Type 0 where
  pub parameter : Param
  pub value : Value
  pub added : List Need
  pub needs_are : new.needs.items ≡ old.needs.items ++ added
  pub fits : Fits parameter value (map need_view added)
  pub shallow : depth parameter ≤ most
  pub laid : LaidBefore bytes (token.left ∷ (param_tokens parameter ++ (token.right ∷ []))) rest
  pub text_is : new.draft ≡ old.draft ++ (codes "(" ++ (value_text s value ++ codes ")"))

-- a keyword is laid at the front, with the rest behind it; it names this type, which the select offers, and is appended
pub record TakesKeyword (s : Schema) (select chosen : ℕ) (bytes rest old new : List ℕ) : Type 0 where
  pub word : List ℕ
  pub offers : Offers s select (type_member chosen)
  pub named : TypeNamed s chosen word
  pub laid : LaidBefore bytes (token.keyword word ∷ []) rest
  pub text_is : new ≡ old ++ word

-- a byte stands at the front, behind separators
abbrev pub PassesDelimiter : ℕ → List ℕ → List ℕ → Type 0
PassesDelimiter mark bytes rest = (gap : List ℕ) × (bytes ≡ gap ++ mark ∷ rest) × IsSeparatorText gap

-- so many bytes at the front are one token, which is a parameter of this type that needs nothing, and the canonical text of
-- the value that it stands for is appended, whatever the schema
pub record TakesScalar (type : TypeUse) (bytes : List ℕ) (count : ℕ) (old new : List ℕ) : Type 0 where
  pub token : Token
  pub parameter : Param
  pub value : Value
  pub stands : IsLeadingToken bytes count token
  pub tokens_are : param_tokens parameter ≡ token ∷ []
  pub flat : depth parameter ≡ 0
  pub fits : (s : Schema) → FitsWithNeeds s type parameter value []
  pub text_is : (s : Schema) → new ≡ old ++ value_text s value

-- a name at the type needs an instance of this member alone
abbrev pub TakesReferencesTo : Schema → TypeUse → Member → Type 0
TakesReferencesTo s type wanted = (n : ℕ) → FitsWithNeeds s type (parameter.name n) (reference n)
    (record { target = n; wanted = wanted } ∷ [])

-- some type of the schema comes down to this base
abbrev pub IsBaseInSchema : Schema → Base → Type 0
IsBaseInSchema s base = (type : TypeUse) × IsTypeUse s type × HasBase s type base

-- the type of a place, where there is one, is of the schema
abbrev pub IsKnownAt : Schema → PlaceType → Type 0
IsKnownAt s (stored_place optional type) = IsTypeUse s type
IsKnownAt s other = Unit {0}

-- the new needs begin with the old ones
abbrev pub KeepsNeeds : List Need → List Need → Type 0
KeepsNeeds old new = (added : List Need) × (new ≡ old ++ added)

-- so many bytes at the front are a name, which needs an instance of this member, at each type where it does
abbrev pub TakesReference : Member → List ℕ → ℕ → Taken → Taken → Type 0
TakesReference wanted bytes count old new =
    (count ≤ length bytes) × ((s : Schema) (type : TypeUse) → TakesReferencesTo s type wanted
    → TakesWithNeeds s (FitsWithNeeds s type) 0 bytes (drop count bytes) old new)

-- a value of a type that is this base
abbrev pub TakesBase : Schema → Base → ℕ → List ℕ → List ℕ → Taken → Taken → Type 0
TakesBase s base most bytes rest old new = (type : TypeUse) → IsBase s type base
    → TakesWithNeeds s (FitsWithNeeds s type) most bytes rest old new

-- a value of a type that comes down to this base, in parentheses
abbrev pub TakesEnclosedBase : Schema → Base → ℕ → List ℕ → List ℕ → Taken → Taken → Type 0
TakesEnclosedBase s base most bytes rest old new = (type : TypeUse) → HasBase s type base
    → TakesEnclosed s (FitsWithNeeds s type) most bytes rest old new

-- a value at a place with a type that comes down to this base
abbrev pub TakesPlaced : Schema → Bool → Base → ℕ → List ℕ → List ℕ → Taken → Taken → Type 0
TakesPlaced s optional base most bytes rest old new =
    (type : TypeUse) → HasBase s type base → TakesWithNeeds s (FitsAtWithNeeds s (stored_place optional type)) most bytes rest old new

-- what may stand at a place
abbrev pub TakesStored : Stored → List ℕ → List ℕ → Taken → Taken → Type 0
TakesStored at = TakesPlaced at.schema.now at.optional at.base.now at.most
