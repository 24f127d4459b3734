-- Elements of aggregates that are taken straight from their bytes.
use Rattle.std.specs.Prelude.{◌≡◌, ℕ, ◌-◌, ◌≤◌, Bool, true, false, List, [], ◌∷◌, ◌+◌, ◌++◌, Some, map}
use Rattle.p21_spec_laws.specs.Needs.{FitEachWithNeeds, FitsWithNeeds}
use Rattle.p21_spec_exchange.specs.Nesting.{params_depth}
use Rattle.p21_spec_exchange.specs.Parameter.{Params, params_tokens}
use Rattle.p21_spec_exchange.specs.Token.{Token}
use Rattle.p21_spec_file.specs.ParameterKind.{element_type}
use Rattle.p21_spec_file.specs.Value.{Values, count}
use Rattle.p21_spec_file.specs.ValueText.{value_texts, with_commas_between}
use Rattle.p21_schema.specs.Base.{HasBase}
use Rattle.p21_schema.specs.declared.base.Base.{Base}
use Rattle.p21_mapping_values.specs.declared.need.Need.{Need}
use Rattle.p21_mapping_values.specs.TypedView.{need_view}
use Rattle.p21_spec_schema.specs.Schema.{Schema, TypeUse}
use Rattle.p21_shorter_instances.specs.ArrangedElements.{compares_elements}
use Rattle.p21_shorter_instances.specs.declared.taken.Taken.{Taken}
use Rattle.p21_shorter_instances.specs.declared.value.Stored.{Stored}
use Rattle.p21_shorter_instances.specs.TakenValues.{LaidBefore, TakesWithNeeds}
use Rattle.p21_mapping_values.specs.SplitTexts.{lengths_of}

-- the length of a text from a place to another is added, where elements are compared
abbrev pub AddsLength : Bool → ℕ → ℕ → List ℕ → List ℕ → Type 0
AddsLength compared before behind lengths longer = compared ≡ true → longer ≡ lengths ++ (behind - before) ∷ []

-- so many parameters that fit are laid at the front by these tokens, with the rest behind them; the texts of the values that
-- they stand for are appended in this form, and where they are compared how long each is; their needs are added; lists and
-- typed parameters stand at most so deep in them
pub record TakesEach (tokens : Params → List Token) (text : List (List ℕ) → List ℕ) (s : Schema) (optional : Bool) (type : TypeUse)
    (compared : Bool) (most number : ℕ) (bytes rest lengths longer : List ℕ) (old new : Taken) : Type 0 where
  pub parameters : Params
  pub values : Values
  pub added : List Need
  pub needs_are : new.needs.items ≡ old.needs.items ++ added
  pub fit : FitEachWithNeeds s optional type parameters values (map need_view added)
  pub number_is : number ≡ count values
  pub shallow : params_depth parameters ≤ most
  pub laid : LaidBefore bytes (tokens parameters) rest
  pub text_is : new.draft ≡ old.draft ++ text (value_texts s values)
  pub lengths_are : compared ≡ true → longer ≡ lengths ++ lengths_of (value_texts s values)

-- with a comma between each two
abbrev pub TakesElements : Schema → Bool → TypeUse → Bool → ℕ → ℕ → List ℕ → List ℕ → List ℕ → List ℕ → Taken → Taken → Type 0
TakesElements = TakesEach params_tokens with_commas_between

-- an aggregate of such elements, where places may be empty or not; where they are compared, none is empty
abbrev pub IsAggregateOf : TypeUse → Bool → TypeUse → Type 0
IsAggregateOf type optional element = (element_type type ≡ Some (optional, element)) × (compares_elements type ≡ true → optional ≡ false)

-- elements of a type that comes down to this base
abbrev pub TakesAll : Schema → Bool → Base → Bool → ℕ → ℕ → List ℕ → List ℕ → List ℕ → List ℕ → Taken → Taken → Type 0
TakesAll s optional base compared most number bytes rest lengths longer old new =
    (element : TypeUse) → HasBase s element base → TakesElements s optional element compared most number bytes rest lengths longer old new

-- elements at places where this may stand
abbrev pub TakesStoredEach : Stored → Bool → ℕ → List ℕ → List ℕ → List ℕ → List ℕ → Taken → Taken → Type 0
TakesStoredEach at compared = TakesAll at.schema.now at.optional at.base.now compared at.most

-- an aggregate of this type at whose places this may stand
abbrev pub TakesAggregate : Stored → TypeUse → List ℕ → List ℕ → Taken → Taken → Type 0
TakesAggregate at type bytes rest old new =
    (element : TypeUse) → IsAggregateOf type at.optional element → HasBase at.schema.now element at.base.now
    → TakesWithNeeds at.schema.now (FitsWithNeeds at.schema.now type) (at.most + 1) bytes rest old new

-- this may stand at the places of an aggregate of this type
abbrev pub IsAtPlacesOf : TypeUse → Stored → Type 0
IsAtPlacesOf type at = (element : TypeUse) × IsAggregateOf type at.optional element × HasBase at.schema.now element at.base.now
