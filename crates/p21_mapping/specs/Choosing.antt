-- What a base has for a name and for a keyword.
use Rattle.std.specs.Prelude.{◌≡◌, ℕ, ◌<◌, ◌^◌, List, [], ◌∷◌, Option, Some, None}
use Rattle.p21_spec_laws.proofs.OfType.{OfType}
use Rattle.p21_spec_laws.specs.Needs.{FitsWithNeeds}
use Rattle.p21_spec_exchange.specs.Keyword.{IsKeyword}
use Rattle.p21_spec_exchange.specs.Parameter as parameter
use Rattle.p21_spec_exchange.specs.Parameter.{Key, Param, key_of}
use Rattle.p21_schema.specs.Base.{IsBase}
use Rattle.p21_schema.specs.declared.base.Base.{Base}
use Rattle.p21_express_graph.specs.Resolved.{IsTypeUse}
use Rattle.p21_express_graph.specs.declared.kind.Member.{Member}
use Rattle.p21_express_graph.specs.declared.number.TypeId.{TypeId}
use Rattle.p21_express_graph.specs.Meaning.{member}
use Rattle.p21_spec_file.specs.ParameterKind.{TakesKind}
use Rattle.p21_spec_file.specs.Value as meant
use Rattle.p21_spec_schema.specs.Schema.{Schema, TypeUse, defined, type_member, TypeNamed}
use Rattle.p21_spec_schema.specs.Select.{Offers}

-- some type of the schema comes to this base
abbrev pub IsBaseIn : Schema → Base → Type 0
IsBaseIn s base = (type : TypeUse) × IsTypeUse s type × IsBase s type base

-- a name at the type needs an instance of this member alone
pub record WantsMember (s : Schema) (type : TypeUse) (wanted : Member) : Type 0 where
  pub fits : (n : ℕ) → FitsWithNeeds s type (parameter.name n) (meant.reference n) (record { target = n; wanted = member wanted } ∷ [])
  pub of_type : (n : ℕ) → n < 2 ^ 64 → OfType s type (meant.reference n)

-- what a name needs at the types that come to this base; none where they take no name
abbrev pub DecidesName : Schema → Base → Option Member → Type 0
DecidesName s base (Some wanted) = (type : TypeUse) → IsBase s type base → WantsMember s type wanted
DecidesName s base None = (type : TypeUse) (n : ℕ) → IsBase s type base → ¬ TakesKind s type (parameter.name n)

-- the type is a select that offers the type that the key names
pub record ChoosesType (s : Schema) (type : TypeUse) (key : Key) (chosen : ℕ) : Type 0 where
  pub select : ℕ
  pub type_is : type ≡ defined select
  pub name : List ℕ
  pub key_is : key ≡ key_of name
  pub keyword : IsKeyword name
  pub offers : Offers s select (type_member chosen)
  pub named : TypeNamed s chosen name

-- the type that the key names at the types that come to this base; none where they take no parameter with this key
abbrev pub DecidesKey : Schema → Base → Key → Option TypeId → Type 0
DecidesKey s base key (Some chosen) = (type : TypeUse) → IsBase s type base → ChoosesType s type key chosen.0
DecidesKey s base key None = (type : TypeUse) (p : Param) → IsBase s type base → ¬ TakesKind s type (parameter.typed key p)
