-- References to entity instances, and the instances that may stand where one is wanted (ISO 10303-21, Mapping of EXPRESS
-- data types: entity, select).
use Rattle.std.specs.Prelude.{ℕ, List, [], ◌∷◌, ◌++◌, Contains}
use Rattle.std.specs.List.{flat_map}
use Rattle.p21_spec_schema.specs.Schema.{Schema, Member, entity_member, type_member}
use Rattle.p21_spec_schema.specs.Select.{Offers}
use Rattle.p21_spec_exchange.specs.Parameter as parameter
use Rattle.p21_spec_exchange.specs.Parameter.{Param, Params, no_params, param}
use Rattle.p21_spec_exchange.specs.Record.{Record, simple, complex}

-- the instances of a file, each by its name with its set of entities
abbrev pub EntitySets : Type 0
EntitySets = List (ℕ × List ℕ)

-- a reference, by the instance name and the entity or select that is wanted there
pub record Need : Type 0 where
  pub target : ℕ
  pub wanted : Member

-- a set of entities that may stand where an entity, or an entity of the flattened select of this number, is wanted
abbrev pub Serves : Schema → Member → List ℕ → Type 0
Serves s (entity_member e) entities = Contains entities e
Serves s (type_member t) entities = (e : ℕ) × Offers s t (entity_member e) × Contains entities e

-- the instance of this name has a set that may stand there
abbrev pub IsServed : Schema → EntitySets → Need → Type 0
IsServed s kinds need = (entities : List ℕ) × Contains kinds (need.target, entities) × Serves s need.wanted entities

-- the instance names in parameters, as they stand
abbrev mutual
  pub param_references : Param → List ℕ
  param_references (parameter.name n) = n ∷ []
  param_references (parameter.list params) = references params
  param_references (parameter.typed key p) = param_references p
  param_references other = []

  pub references : Params → List ℕ
  references no_params = []
  references (param p ps) = param_references p ++ references ps

-- the instance names in the parameters of a record, as they stand
abbrev pub record_references : Record → List ℕ
record_references (simple part) = references part.params
record_references (complex parts) = flat_map (λ part. references part.params) parts
