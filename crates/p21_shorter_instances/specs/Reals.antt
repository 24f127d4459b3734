-- Reals that are taken one behind the other.
use Rattle.std.specs.Prelude.{◌≡◌, ◌⊎◌, ◌+◌, ◌-◌, ◌<◌, ◌≤◌, ℕ, false, List, [], ◌∷◌, ◌++◌, drop, length, slice_index}
use Rattle.p21_schema.specs.declared.base.Base.{Base}
use Rattle.p21_schema.specs.declared.base.Base.TheVariants.{Plain}
use Rattle.p21_express_graph.specs.declared.type_use.TypeUse as code
use Rattle.p21_spec_laws.specs.Needs.{FitsWithNeeds}
use Rattle.p21_schema.specs.Base.{HasBase}
use Rattle.p21_spec_schema.specs.Schema.{Schema, TypeUse}
use Rattle.p21_spec_schema.specs.WellFormed.{HasDistinctTypes}
use Rattle.p21_shorter_instances.specs.declared.taken.Taken.{Taken}
use Rattle.p21_shorter_instances.specs.Elements.{IsAggregateOf, TakesAll}
use Rattle.p21_shorter_instances.specs.TakenValues.{PassesDelimiter, TakesFront, TakesPlaced, with_text}
use Rattle.p21_shorter_tokens.specs.Gaps.{PassesSeparators}

-- a type that comes down to it comes down to REAL
abbrev pub IsRealBase : Base → Type 0
IsRealBase (Plain found) = found.now ≡ code.Real
IsRealBase other = ⊥

-- one at a place of an aggregate, whatever the schema
abbrev pub TakesReal : List ℕ → List ℕ → List ℕ → List ℕ → Type 0
TakesReal bytes rest old new =
    (s : Schema) (base : Base) (most : ℕ) (taken : Taken) → IsRealBase base
    → TakesPlaced s false base most bytes rest (with_text old taken) (with_text new taken)

-- so many with a comma between each two, whose lengths aren't asked for
abbrev pub TakesReals : ℕ → List ℕ → List ℕ → List ℕ → List ℕ → Type 0
TakesReals number bytes rest old new =
    (s : Schema) (base : Base) (most : ℕ) (lengths : List ℕ) (taken : Taken) → IsRealBase base
    → TakesAll s false base false most number bytes rest lengths lengths (with_text old taken) (with_text new taken)

-- a `,` or a `)` stands first behind separators, and is appended
pub record TakesMark (bytes rest old new : List ℕ) : Type 0 where
  pub mark : ℕ
  pub is_mark : (mark ≡ 44) ⊎ (mark ≡ 41)
  pub passes : PassesDelimiter mark bytes rest
  pub appended : new ≡ old ++ mark ∷ []

-- one stands behind separators, and a `,` or a `)` behind it ends so many bytes
pub record TakesMarkedReal (bytes : List ℕ) (count : ℕ) (old new : List ℕ) : Type 0 where
  pub inside : List ℕ
  pub behind : List ℕ
  pub rest : List ℕ
  pub between : List ℕ
  pub passes : PassesSeparators bytes inside
  pub real : TakesReal inside behind old between
  pub takes : TakesMark behind rest between new
  pub some : 0 < count
  pub within : count ≤ length bytes
  pub rest_is : drop count bytes ≡ rest
  pub last : slice_index bytes (count - 1) ≡ takes.mark

-- so many with a comma between each two, and a `)` behind them
pub record TakesClosedReals (number : ℕ) (bytes rest old new : List ℕ) : Type 0 where
  pub behind : List ℕ
  pub between : List ℕ
  pub reals : TakesReals number bytes behind old between
  pub closes : PassesDelimiter 41 behind rest
  pub appended : new ≡ between ++ 41 ∷ []

-- an aggregate of this type whose elements are reals, by so many bytes at the front, whatever the schema
abbrev pub TakesRealAggregate : TypeUse → List ℕ → ℕ → List ℕ → List ℕ → Type 0
TakesRealAggregate type bytes count old new =
    (s : Schema) (element : TypeUse) (base : Base) (most : ℕ) (taken : Taken) → HasDistinctTypes s → IsAggregateOf type false element
    → HasBase s element base → IsRealBase base
    → TakesFront s (FitsWithNeeds s type) (most + 1) bytes count (with_text old taken) (with_text new taken)
