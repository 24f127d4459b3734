-- What is known of the instances of an entity, prepared.
use Rattle.std.specs.Option.{option_map}
use Rattle.std.specs.Prelude.{◌≡◌, ◌≢◌, ℕ, false, List, [], ◌∷◌, Option, Some, map, slice_get}
use Rattle.p21_spec_exchange.specs.Keyword.{IsKeyword}
use Rattle.p21_express_graph.specs.DirectRenaming.{ComesTo}
use Rattle.p21_express_graph.specs.Orders.{numbers}
use Rattle.p21_schema.specs.Base.{HasBase}
use Rattle.p21_schema.specs.OwnSets.{LeavesOpen}
use Rattle.p21_schema.specs.declared.base.Base.{Base}
use Rattle.p21_express_graph.specs.Resolved.{IsEntity, IsPlace, IsTypeUse}
use Rattle.p21_express_graph.specs.Rising.{IsOwnRising}
use Rattle.p21_express_graph.specs.Meaning.{place as place_of, type_use}
use Rattle.p21_spec_schema.specs.OneOf.{Clashes}
use Rattle.p21_spec_schema.specs.Order.{order, places}
use Rattle.p21_spec_schema.specs.PlaceType.{PlaceType, TypeAt, derived_place, stored_place}
use Rattle.p21_spec_schema.specs.Schema.{EntityNamed, IsAbstract, Place, Schema, TypeUse}
use Rattle.p21_shorter_instances.specs.ArrangedElements.{compares_elements}
use Rattle.p21_shorter_instances.specs.Elements.{IsAggregateOf}
use Rattle.p21_shorter_instances.specs.Reals.{IsRealBase}
use Rattle.p21_shorter_instances.specs.Prepared.{Prepared, PreparedStep, derived_step, placed_step, reals_step, stored_step}
use Rattle.p21_shorter_instances.specs.declared.row.Row.{Row}
use Rattle.p21_shorter_instances.specs.declared.step.Step.{Step}
use Rattle.p21_shorter_instances.specs.declared.step.Step.TheVariants.{Derived, Placed, Reals, Stored}

-- ---- steps, as pure data

-- the elements of an aggregate of this type are reals, and aren't compared; none is left out
abbrev pub AreReals : Schema → TypeUse → Type 0
AreReals s type = (compares_elements type ≡ false) × (element : TypeUse) × (base : Base) × IsAggregateOf type false element
    × HasBase s element base × IsRealBase base

-- what is prepared says what may stand at a place of this type: the type itself, or one that it comes down to, or a place with
-- this type
abbrev pub Prepares : Schema → PlaceType → PreparedStep → Type 0
Prepares s at derived_step = at ≡ derived_place
Prepares s at (stored_step optional last) = (type : TypeUse) × (at ≡ stored_place optional type) × IsTypeUse s last × ComesTo s type last
Prepares s at (reals_step last) = ((type : TypeUse) × (at ≡ stored_place false type) × IsTypeUse s last × ComesTo s type last)
    × AreReals s last
Prepares s at (placed_step e place) = IsEntity s e × IsPlace s place × TypeAt s (order s e) place at

-- what is prepared says what may stand at the place of an instance with this set
abbrev pub IsPreparedAt : Schema → List ℕ → Place → PreparedStep → Type 0
IsPreparedAt s entities place step = (at : PlaceType) × TypeAt s entities place at × Prepares s at step

-- what is prepared says it of the places in turn
abbrev pub ArePreparedAt : Schema → List ℕ → List Place → List PreparedStep → Type 0
ArePreparedAt s entities [] [] = Unit {0}
ArePreparedAt s entities [] (step ∷ steps) = ⊥
ArePreparedAt s entities (place ∷ rest) [] = ⊥
ArePreparedAt s entities (place ∷ rest) (step ∷ steps) = IsPreparedAt s entities place step × ArePreparedAt s entities rest steps

-- ---- steps of the code

-- what a step stands for
abbrev pub step_view : Step → PreparedStep
step_view Derived = derived_step
step_view (Stored optional of) = stored_step optional (type_use of)
step_view (Reals of) = reals_step (type_use of)
step_view (Placed entity place) = placed_step entity.0 (place_of place)

-- the step says what may stand at a place of this type
abbrev pub IsStepFor : Schema → PlaceType → Step → Type 0
IsStepFor s at step = Prepares s at (step_view step)

-- the step says what may stand at some place
abbrev pub IsStepForSome : Schema → Step → Type 0
IsStepForSome s step = (at : PlaceType) × IsStepFor s at step

-- the step says what may stand at the place of an instance with this set
abbrev pub IsStepAt : Schema → List ℕ → Place → Step → Type 0
IsStepAt s entities place step = IsPreparedAt s entities place (step_view step)

-- the steps say it of the places in turn
abbrev pub AreStepsAt : Schema → List ℕ → List Place → List Step → Type 0
AreStepsAt s entities places steps = ArePreparedAt s entities places (map step_view steps)

-- ---- rows of entities

-- what a row stands for
abbrev pub row_view : Row → Prepared
row_view row = record { entities = numbers row.entities.items; steps = map step_view row.steps.items; keyword = row.keyword }

-- what the rows stand for, where there are some
abbrev pub rows_view : List (Option Row) → List (Option Prepared)
rows_view rows = map (option_map row_view) rows

-- an instance may have the entity and its supertypes as its set
pub record MayStandAlone (s : Schema) (e : ℕ) : Type 0 where
  pub concrete : IsAbstract s e → ⊥
  pub decided : LeavesOpen s e → ⊥
  pub agrees : Clashes s (order s e) → ⊥

-- it may, and this is what the set is, and what stands at the attributes of such an instance in internal mapping; the keyword of
-- the row, where it has one, is the name of the entity
pub record IsRow (s : Schema) (e : ℕ) (row : Prepared) : Type 0 where
  pub may : MayStandAlone s e
  pub entities_are : IsOwnRising s e row.entities
  pub steps_are : ArePreparedAt s (order s e) (places s e) row.steps
  pub keyword : row.keyword ≢ [] → EntityNamed s e row.keyword × IsKeyword row.keyword

-- all that is prepared is right for the schema: it is that of the entities of these numbers
abbrev pub IsPlanOf : Schema → List (Option Prepared) → Type 0
IsPlanOf s plan = (e : ℕ) (row : Prepared) → slice_get plan e ≡ Some (Some row) → IsRow s e row
