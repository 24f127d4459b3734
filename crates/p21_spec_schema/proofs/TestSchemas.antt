-- Small schemas for the examples.
use Rattle.std.specs.Prelude.{ℕ, true, false, List, [], ◌∷◌, codes, Some, None}
use Rattle.p21_spec_schema.specs.Schema as schema
use Rattle.p21_spec_schema.specs.Schema.{Schema, Place, TypeUse, entity_member, type_member, alias, items, choice, Attribute, Redeclared, Entity}

abbrev pub entity_of : List ℕ → List ℕ → List Attribute → Entity
entity_of name supertypes attributes = record { name = name; is_abstract = false; supertypes = supertypes; attributes = attributes; redeclared = []; derived = [] }

abbrev pub attribute : List ℕ → TypeUse → Attribute
attribute name type = record { name = name; optional = false; type = type }

-- C is a subtype of A and B, which are subtypes of R
abbrev pub diamond : Schema
diamond = record {
  name = codes "DIAMOND";
  types = [];
  one_of_lists = [];
  entities = entity_of (codes "R") [] (attribute (codes "K") schema.whole ∷ [])
      ∷ entity_of (codes "A") (0 ∷ []) (attribute (codes "P") schema.whole ∷ [])
      ∷ entity_of (codes "B") (0 ∷ []) (attribute (codes "Q") schema.whole ∷ [])
      ∷ entity_of (codes "C") (1 ∷ 2 ∷ []) (attribute (codes "Z") schema.whole ∷ []) ∷ [];
}

-- A and B redeclare the NUMBER of R as INTEGER and as REAL
abbrev pub k_place : Place
k_place = record { entity = 0; index = 0 }

abbrev pub k_as : TypeUse → Redeclared
k_as type = record { place = k_place; optional = false; type = type }

abbrev pub redeclares_k : List ℕ → TypeUse → Entity
redeclares_k name type = record { name = name; is_abstract = false; supertypes = 0 ∷ []; attributes = []; redeclared = k_as type ∷ []; derived = [] }

abbrev pub redecl : Schema
redecl = record {
  name = codes "REDECL";
  types = [];
  one_of_lists = [];
  entities = entity_of (codes "R") [] (attribute (codes "K") schema.number ∷ []) ∷ redeclares_k (codes "A") schema.whole ∷ redeclares_k (codes "B") schema.real ∷ [];
}

-- SHAPE is abstract, POINT and MARKED are subtypes of it, and ORIGIN is a subtype of POINT, which derives its X
abbrev pub label_place : Place
label_place = record { entity = 0; index = 0 }

abbrev pub x_place : Place
x_place = record { entity = 1; index = 0 }

abbrev pub y_place : Place
y_place = record { entity = 1; index = 1 }

abbrev pub label : Attribute
label = record { name = codes "LABEL"; optional = true; type = schema.text None }

abbrev pub shape : Entity
shape = record { name = codes "SHAPE"; is_abstract = true; supertypes = []; attributes = label ∷ []; redeclared = []; derived = [] }

abbrev pub point : Entity
point = entity_of (codes "POINT") (0 ∷ []) (attribute (codes "X") (schema.defined 0) ∷ attribute (codes "Y") (schema.defined 0) ∷ [])

abbrev pub marked : Entity
marked = entity_of (codes "MARKED") (0 ∷ []) (attribute (codes "MARK") (schema.defined 2) ∷ [])

abbrev pub origin : Entity
origin = record { name = codes "ORIGIN"; is_abstract = false; supertypes = 1 ∷ []; attributes = []; redeclared = []; derived = x_place ∷ [] }

abbrev pub cloud : Entity
cloud = entity_of (codes "CLOUD") [] (attribute (codes "MEMBERS") (schema.set 0 None (schema.entity 1)) ∷ attribute (codes "SIZES") (schema.bag 0 None (schema.bag 0 None schema.real)) ∷ attribute (codes "VALUES") (schema.list 1 (Some 3) true (schema.defined 4)) ∷ [])

abbrev pub demo : Schema
demo = record {
  name = codes "DEMO";
  one_of_lists = [];
  types = record { name = codes "DISTANCE"; kind = alias schema.real }
      ∷ record { name = codes "TALLY"; kind = alias schema.whole }
      ∷ record { name = codes "COLOUR"; kind = items (codes "RED" ∷ codes "GREEN" ∷ []) }
      ∷ record { name = codes "MEASURE"; kind = choice (type_member 0 ∷ type_member 1 ∷ []) }
      ∷ record { name = codes "ITEM"; kind = choice (type_member 3 ∷ entity_member 1 ∷ []) } ∷ [];
  entities = shape ∷ point ∷ marked ∷ origin ∷ cloud ∷ [];
}
