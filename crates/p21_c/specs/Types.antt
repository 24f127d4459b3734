-- Types of a schema, as C has them.
use Rattle.std.specs.Prelude.{ℕ, zero, suc, Bool, true, false, cond, List, length, Option, None, Some, slice_get}
use Rattle.p21_c.specs.declared.model_types.Declared.{Declared}
use Rattle.p21_c.specs.declared.model_types.Member.{Member as ToldMember}
use Rattle.p21_c.specs.declared.model_types.TypeParts.{TypeParts}
use Rattle.p21_spec_schema.specs.PlaceType.{PlaceType, derived_place, stored_place, two_redeclarations}
use Rattle.p21_spec_schema.specs.Schema.{Kind, Member, TypeUse, Width, alias, array, bag, bits, boolean, choice, defined, entity, entity_member, items, list, logical, number, real, set, text, type_member, whole}

-- a type of this kind, of which nothing else is said
abbrev pub bare : ℕ → TypeParts
bare kind = record { kind = kind; optional = 0; unique = 0; fixed = 0; bounded = 0; number = 0; low = 0; high = 0 }

abbrev pub numbered : ℕ → ℕ → TypeParts
numbered kind of = record { kind = kind; optional = 0; unique = 0; fixed = 0; bounded = 0; number = of; low = 0; high = 0 }

-- a text or a binary
abbrev pub wide : ℕ → Option Width → TypeParts
wide kind None = bare kind
wide kind (Some width) = record {
  kind = kind;
  optional = 0;
  unique = 0;
  fixed = cond width.fixed 1 0;
  bounded = 1;
  number = 0;
  low =
      0;
  high = width.most;
}

-- an aggregate
abbrev pub aggregate : ℕ → ℕ → Option ℕ → Bool → TypeParts
aggregate kind low None unique = record {
  kind = kind;
  optional = 0;
  unique = cond unique 1 0;
  fixed = 0;
  bounded = 0;
  number = 0;
  low =
      low;
  high = 0;
}
aggregate kind low (Some high) unique = record {
  kind = kind;
  optional = 0;
  unique = cond unique 1 0;
  fixed = 0;
  bounded = 1;
  number =
      0;
  low = low;
  high = high;
}

-- a type without its elements
abbrev pub parts_of : TypeUse → TypeParts
parts_of whole = bare 0
parts_of real = bare 1
parts_of number = bare 2
parts_of boolean = bare 3
parts_of logical = bare 4
parts_of (text width) = wide 5 width
parts_of (bits width) = wide 6 width
parts_of (entity e) = numbered 7 e
parts_of (defined t) = numbered 8 t
parts_of (array low high optional unique element) = aggregate 9 low (Some high) unique
parts_of (list low high unique element) = aggregate 10 low high unique
parts_of (set low high element) = aggregate 11 low high true
parts_of (bag low high element) = aggregate 12 low high false

-- the type of the elements, and whether they may be left out
abbrev pub elements_of : TypeUse → Option (Bool × TypeUse)
elements_of (array low high optional unique element) = Some (optional, element)
elements_of (list low high unique element) = Some (false, element)
elements_of (set low high element) = Some (false, element)
elements_of (bag low high element) = Some (false, element)
elements_of other = None

-- a type that may be left out here or not, and so many aggregates deep that of the elements
abbrev pub told_at : ℕ → Bool → TypeUse → Option TypeParts
told_at zero optional type =
    let parts = parts_of type in
    Some (record {
      kind = parts.kind;
      optional = cond optional 1 0;
      unique = parts.unique;
      fixed = parts.fixed;
      bounded =
          parts.bounded;
      number = parts.number;
      low = parts.low;
      high = parts.high;
    })
told_at (suc depth) optional type = elim (elements_of type) [ Some inside ↦ told_at depth inside.0 inside.1 | None ↦ None ]

-- a derived value, which has no elements
abbrev pub derived_told : ℕ → Option TypeParts
derived_told zero = Some (bare 13)
derived_told (suc depth) = None

-- what may stand at a place: a type, or a derived value; nothing where two redeclarations leave it open
abbrev pub place_told : ℕ → PlaceType → Option TypeParts
place_told depth derived_place = derived_told depth
place_told depth (stored_place optional type) = told_at depth optional type
place_told depth two_redeclarations = None

-- the type that a type renames
abbrev pub renamed_told : ℕ → Option Kind → Option TypeParts
renamed_told depth (Some (alias type)) = told_at depth false type
renamed_told depth other = None

-- of which kind a declared type is, and how many items or members it has
abbrev pub declared_told : Kind → Declared
declared_told (alias type) = record { kind = 0; count = 0 }
declared_told (items words) = record { kind = 1; count = length words }
declared_told (choice members) = record { kind = 2; count = length members }

-- an item of an enumeration
abbrev pub item_in : Option Kind → ℕ → Option (List ℕ)
item_in (Some (items words)) at = slice_get words at
item_in other at = None

-- a member of a select
abbrev pub member_told : Member → ToldMember
member_told (entity_member e) = record { kind = 7; number = e }
member_told (type_member t) = record { kind = 8; number = t }

abbrev pub member_in : Option Kind → ℕ → Option Member
member_in (Some (choice members)) at = slice_get members at
member_in other at = None
