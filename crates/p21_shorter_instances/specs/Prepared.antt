-- What is prepared of the instances of an entity, as pure data.
use Rattle.std.specs.Prelude.{◌≡◌, ℕ, nat_eq, Bool, false, List, [], ◌∷◌, Option, Some, None, refl, if◌then◌else◌}
use Rattle.std.specs.Coded.{Coded, code_by, coded_ℕ, coded_bool, coded_list, coded_option, coded×}
use Rattle.p21_schema.specs.Coding.{schema_code}
use Rattle.p21_spec_schema.specs.Schema.{Defined, Kind, Place, Schema, TypeUse, alias, choice, items, whole}

-- What may stand at an attribute: `*`; a value of a type, which is OPTIONAL or not; an aggregate of this type, whose elements are reals
-- that aren't compared; or what may stand at a place of an instance whose set is an entity and its supertypes
pub data PreparedStep : Type 0 where
  derived_step : PreparedStep
  stored_step : Bool → TypeUse → PreparedStep
  reals_step : TypeUse → PreparedStep
  placed_step : ℕ → Place → PreparedStep

-- the entities of the set, rising by name, what may stand at the attributes in the order of internal mapping, and a keyword that
-- names the entity, or no bytes
pub record Prepared : Type 0 where
  pub entities : List ℕ
  pub steps : List PreparedStep
  pub keyword : List ℕ

-- ---- It is stored as numbers and lists, so that two can be told apart. Nothing that is claimed rests on that.

-- a type is stored as a schema with one type that renames it
abbrev renaming : TypeUse → Schema
renaming type = record { name = []; entities = []; types = record { name = []; kind = alias type } ∷ []; one_of_lists = [] }

abbrev renamed : Kind → TypeUse
renamed (alias type) = type
renamed (items words) = whole
renamed (choice members) = whole

abbrev first_renamed : List Defined → TypeUse
first_renamed [] = whole
first_renamed (d ∷ ds) = renamed d.kind

abbrev type_code : Coded TypeUse
type_code = code_by Schema schema_code renaming (λ s. first_renamed s.types) (λ _. refl)

abbrev step_cases : PreparedStep → Option (Option (Bool × TypeUse)) × (ℕ × (ℕ × ℕ))
step_cases derived_step = (None, (0, (0, 0)))
step_cases (stored_step optional type) = (Some (Some (optional, type)), (0, (0, 0)))
step_cases (reals_step type) = (Some (Some (false, type)), (1, (0, 0)))
step_cases (placed_step e place) = (Some None, (e, (place.entity, place.index)))

abbrev step_from : Option (Option (Bool × TypeUse)) × (ℕ × (ℕ × ℕ)) → PreparedStep
step_from (None, at) = derived_step
step_from (Some (Some (optional, type)), (number, at)) = if nat_eq number 0 then stored_step optional type else reals_step type
step_from (Some None, (e, (owner, index))) = placed_step e (record { entity = owner; index = index })

pub step-back : (step : PreparedStep) → step_from (step_cases step) ≡ step
step-back derived_step = refl
step-back (stored_step optional type) = refl
step-back (reals_step type) = refl
step-back (placed_step e place) = refl

abbrev step_code : Coded PreparedStep
step_code =
    code_by (Option (Option (Bool × TypeUse)) × (ℕ × (ℕ × ℕ)))
    (coded× (coded_option (coded_option (coded× coded_bool type_code))) (coded× coded_ℕ (coded× coded_ℕ coded_ℕ))) step_cases step_from
    step-back

abbrev prepared_code : Coded Prepared
prepared_code =
    code_by (List ℕ × (List PreparedStep × List ℕ)) (coded× (coded_list coded_ℕ) (coded× (coded_list step_code) (coded_list coded_ℕ)))
    (λ p. (p.entities, (p.steps, p.keyword))) (λ p. record { entities = p.0; steps = p.1.0; keyword = p.1.1 }) (λ _. refl)

abbrev pub plan_code : Coded (List (Option Prepared))
plan_code = coded_list (coded_option prepared_code)
