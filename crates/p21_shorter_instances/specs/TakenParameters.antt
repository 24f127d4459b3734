-- The parts of an instance that is taken straight from its bytes.
use Rattle.std.specs.Prelude.{◌≡◌, ℕ, ◌≤◌, List, [], ◌∷◌, ◌++◌, None, Option, Some, map}
use Rattle.std.specs.List.{AllByRecursion as Each, flat_map}
use Rattle.p21_spec_laws.specs.Needs.{FitsAtWithNeeds}
use Rattle.p21_spec_exchange.specs.Keyword.{IsKeyword}
use Rattle.p21_spec_exchange.specs.Nesting.{depth}
use Rattle.p21_spec_exchange.specs.Parameter.{Param, Params, no_params, param, params_tokens}
use Rattle.p21_spec_exchange.specs.Token.{Token, keyword, left, right, semicolon}
use Rattle.p21_spec_file.specs.Reference as meant
use Rattle.p21_spec_file.specs.Value.{Value}
use Rattle.p21_spec_file.specs.ValueText.{value_text, with_commas_between}
use Rattle.p21_express_graph.specs.declared.number.EntityId.{EntityId}
use Rattle.p21_mapping_values.specs.declared.need.Need.{Need}
use Rattle.p21_mapping_values.specs.TypedView.{need_view}
use Rattle.p21_spec_schema.specs.PlaceType.{PlaceType, TypeAt}
use Rattle.p21_spec_schema.specs.Schema.{EntityNamed, Place, Schema}
use Rattle.p21_shorter_instances.specs.Prepared.{Prepared}
use Rattle.p21_shorter_instances.specs.Steps.{AreStepsAt, IsRow, IsStepFor, step_view}
use Rattle.p21_shorter_instances.specs.declared.step.Step.{Step}
use Rattle.p21_shorter_instances.specs.declared.taken.Taken.{Taken}
use Rattle.p21_shorter_instances.specs.TakenValues.{LaidBefore, PassesDelimiter, TakesWithNeeds, with_text}

-- the tokens are laid at the front, with the rest behind them, and this text is appended
pub record TakesTokens (tokens : List Token) (text bytes rest old new : List ℕ) : Type 0 where
  pub laid : LaidBefore bytes tokens rest
  pub appended : new ≡ old ++ text

-- the byte stands first behind separators, and is appended
pub record TakesDelimiter (mark : ℕ) (bytes rest old new : List ℕ) : Type 0 where
  pub passes : PassesDelimiter mark bytes rest
  pub appended : new ≡ old ++ mark ∷ []

-- the word is the keyword of the entity
abbrev pub IsNamedBy : Schema → ℕ → List ℕ → Type 0
IsNamedBy s e word = EntityNamed s e word × IsKeyword word

-- the keyword of the entity is laid at the front, and appended
abbrev pub TakesEntity : Schema → ℕ → List ℕ → List ℕ → List ℕ → List ℕ → Type 0
TakesEntity s e bytes rest old new = (word : List ℕ) × EntityNamed s e word × TakesTokens (keyword word ∷ []) word bytes rest old new

-- the same with a `(` behind it
pub record TakesOpenedEntity (s : Schema) (e : ℕ) (bytes rest old new : List ℕ) : Type 0 where
  pub behind : List ℕ
  pub between : List ℕ
  pub entity : TakesEntity s e bytes behind old between
  pub opened : TakesDelimiter 40 behind rest between new

-- the opening of a record: the keyword of an entity with a `(`, or a `(` alone
abbrev pub TakesOpening : Schema → Option EntityId → List ℕ → List ℕ → List ℕ → List ℕ → Type 0
TakesOpening s (Some e) bytes rest old new = TakesOpenedEntity s e.0 bytes rest old new
TakesOpening s None bytes rest old new = TakesDelimiter 40 bytes rest old new

-- a parameter at a place, the value that it stands for there, and what it needs
pub record PlacedParameter : Type 0 where
  pub place : Place
  pub parameter : Param
  pub value : Value
  pub needs : List meant.Need

-- in an instance with this set it does, and at most 64 lists and typed parameters stand one in another in it
pub record IsPlacedParameter (s : Schema) (entities : List ℕ) (p : PlacedParameter) : Type 0 where
  pub at : PlaceType
  pub type_at : TypeAt s entities p.place at
  pub fits : FitsAtWithNeeds s at p.parameter p.value p.needs
  pub shallow : depth p.parameter ≤ 64

abbrev pub params_at : List PlacedParameter → Params
params_at [] = no_params
params_at (p ∷ ps) = param p.parameter (params_at ps)

abbrev pub places_at : List PlacedParameter → List Place
places_at ps = map (λ (p : PlacedParameter). p.place) ps

abbrev pub needs_at : List PlacedParameter → List meant.Need
needs_at ps = flat_map (λ (p : PlacedParameter). p.needs) ps

-- the canonical texts of the values
abbrev pub texts_at : Schema → List PlacedParameter → List (List ℕ)
texts_at s ps = map (λ (p : PlacedParameter). value_text s p.value) ps

-- Parameters at these places are laid at the front, with these tokens, and the canonical texts of their values are appended,
-- put together so. What they need is added to the needs before, in their order
pub record TakesPlaces (s : Schema) (entities : List ℕ) (tokens_of : Params → List Token) (text_of : List (List ℕ) → List ℕ)
    (places : List Place) (bytes rest : List ℕ) (old new : Taken) : Type 0 where
  pub placed : List PlacedParameter
  pub each : Each (IsPlacedParameter s entities) placed
  pub places_are : places_at placed ≡ places
  pub added : List Need
  pub needs_are : new.needs.items ≡ old.needs.items ++ added
  pub added_are : needs_at placed ≡ map need_view added
  pub laid : LaidBefore bytes (tokens_of (params_at placed)) rest
  pub text_is : new.draft ≡ old.draft ++ text_of (texts_at s placed)

-- a parameter at a place of which the step speaks
abbrev pub TakesStep : Schema → Step → List ℕ → List ℕ → Taken → Taken → Type 0
TakesStep s step bytes rest old new = (at : PlaceType) → IsStepFor s at step → TakesWithNeeds s (FitsAtWithNeeds s at) 64 bytes rest old new

-- they stand at the places of which these steps speak
abbrev pub TakesSteps : Schema → (Params → List Token) → (List (List ℕ) → List ℕ) → List Step → List ℕ → List ℕ → Taken → Taken → Type 0
TakesSteps s tokens_of text_of steps bytes rest old new =
    (entities : List ℕ) (places : List Place) → AreStepsAt s entities places steps
    → TakesPlaces s entities tokens_of text_of places bytes rest old new

-- the steps say what may stand at some places
abbrev pub AreStepsIn : Schema → List Step → Type 0
AreStepsIn s steps = (entities : List ℕ) × (places : List Place) × AreStepsAt s entities places steps

-- a parameter list in its parentheses, and the end of a statement
abbrev pub body_tokens : Params → List Token
body_tokens ps = left ∷ (params_tokens ps ++ (right ∷ semicolon ∷ []))

abbrev pub body_text : List (List ℕ) → List ℕ
body_text texts = 40 ∷ (with_commas_between texts ++ (41 ∷ 59 ∷ []))

-- the same behind the `(`
pub record TakesInside (s : Schema) (steps : List Step) (bytes rest : List ℕ) (old new : Taken) : Type 0 where
  pub behind : List ℕ
  pub between : List ℕ
  pub places : TakesSteps s params_tokens with_commas_between steps bytes behind old (with_text between new)
  pub ended : TakesTokens (right ∷ semicolon ∷ []) (41 ∷ 59 ∷ []) behind rest between new.draft

-- the same at the attributes of an entity, where an instance may have the entity and its supertypes as its set
pub record TakesParameters (s : Schema) (e : ℕ) (bytes rest : List ℕ) (old new : Taken) : Type 0 where
  pub row : Prepared
  pub row_is : IsRow s e row
  pub steps : List Step
  pub steps_are : map step_view steps ≡ row.steps
  pub takes : TakesInside s steps bytes rest old new
