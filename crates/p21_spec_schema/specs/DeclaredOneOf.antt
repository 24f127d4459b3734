-- The ONEOF lists that entity declarations declare (ISO 10303-11, Subtype/supertype constraints: ONEOF).
use Rattle.std.specs.Prelude.{ℕ, List, [], ◌∷◌}
use Rattle.std.specs.List.{AllZip, flat_map, IsDistinct}
use Rattle.std.specs.Str.{bytes_eq}
use Rattle.p21_spec_schema.specs.EntityDeclaration.{EntityDeclaration}
use Rattle.p21_spec_schema.specs.Schema.{Schema, EntityNamed}
use Rattle.p21_spec_schema.specs.SupertypeConstraint.{SupertypeExpression, one_of, other_run, SupertypeConstraint, abstract_supertype_of, supertype_of}

-- the list of names of a supertype expression, if it is one of ONEOF
abbrev pub names_listed_by : SupertypeExpression → List (List (List ℕ))
names_listed_by (one_of names) = names ∷ []
names_listed_by (other_run run) = []

-- the list of names of a supertype constraint, if it has one of ONEOF
abbrev pub one_of_names : SupertypeConstraint → List (List (List ℕ))
one_of_names (abstract_supertype_of expression) = names_listed_by expression
one_of_names (supertype_of expression) = names_listed_by expression
one_of_names other = []

-- the lists of names of entity declarations, in their order
abbrev pub all_one_of_names : List EntityDeclaration → List (List (List ℕ))
all_one_of_names declarations = flat_map (λ x. one_of_names x.constraint) declarations

-- each name is that of an entity, whatever its supertypes, and none is listed twice
abbrev pub DeclaresOneOf : Schema → List (List ℕ) → List ℕ → Type 0
DeclaresOneOf s names listed = AllZip (EntityNamed s) listed names × IsDistinct bytes_eq names
