-- The kinds of parameters that a type takes, and what its elements, its items and their number are, whatever the values
-- (ISO 10303-21, Mapping of EXPRESS data types).
use Rattle.std.specs.Prelude.{◌≡◌, ℕ, ◌+◌, ℤ, Bool, true, false, List, length, Option, Some, None}
use Rattle.p21_spec_file.specs.Fits.{boolean_items, logical_items, IsWithinBounds, IsWithinWidth}
use Rattle.p21_spec_exchange.specs.Number.{Decimal}
use Rattle.p21_spec_exchange.specs.Parameter as parameter
use Rattle.p21_spec_exchange.specs.Parameter.{Param, Params, key_of}
use Rattle.p21_spec_schema.specs.Schema as schema
use Rattle.p21_spec_schema.specs.Schema.{Schema, TypeUse, entity_member, type_member, alias, items, Width, TypeNamed, kind_of}
use Rattle.p21_spec_schema.specs.Select.{Offers}

-- The type takes a parameter of this kind: a token of its kind, a name at an entity, a list at an aggregate; a defined
-- type what its underlying type takes; a select a name if it has an entity, and the keywords of its types
pub data TakesKind (s : Schema) : TypeUse → Param → Type 0 where
  takes_whole : (z : ℤ) → TakesKind s schema.whole (parameter.whole z)
  takes_real : (d : Decimal) → TakesKind s schema.real (parameter.real d)
  takes_number : (d : Decimal) → TakesKind s schema.number (parameter.real d)
  takes_whole_number : (z : ℤ) → TakesKind s schema.number (parameter.whole z)
  takes_boolean : (word : List ℕ) → TakesKind s schema.boolean (parameter.item word)
  takes_logical : (word : List ℕ) → TakesKind s schema.logical (parameter.item word)
  takes_text : (width : Option Width) (chars : List ℕ) → TakesKind s (schema.text width) (parameter.text chars)
  takes_binary : (width : Option Width) (bs : List Bool) → TakesKind s (schema.bits width) (parameter.bits bs)
  takes_instance : (e n : ℕ) → TakesKind s (schema.entity e) (parameter.name n)
  takes_underlying : (t : ℕ) (type : TypeUse) (p : Param) → kind_of s t ≡ Some (alias type) → TakesKind s type p → TakesKind s (schema.defined t) p
  takes_item : (t : ℕ) (words : List (List ℕ)) (word : List ℕ) → kind_of s t ≡ Some (items words) → TakesKind s (schema.defined t) (parameter.item word)
  takes_chosen_instance : (t e n : ℕ) → Offers s t (entity_member e) → TakesKind s (schema.defined t) (parameter.name n)
  takes_chosen_type : (t u : ℕ) (name : List ℕ) (p : Param) → Offers s t (type_member u) → TypeNamed s u name → TakesKind s (schema.defined t) (parameter.typed (key_of name) p)
  takes_array : (low high : ℕ) (optional unique : Bool) (type : TypeUse) (ps : Params) → TakesKind s (schema.array low high optional unique type) (parameter.list ps)
  takes_list : (low : ℕ) (high : Option ℕ) (unique : Bool) (type : TypeUse) (ps : Params) → TakesKind s (schema.list low high unique type) (parameter.list ps)
  takes_set : (low : ℕ) (high : Option ℕ) (type : TypeUse) (ps : Params) → TakesKind s (schema.set low high type) (parameter.list ps)
  takes_bag : (low : ℕ) (high : Option ℕ) (type : TypeUse) (ps : Params) → TakesKind s (schema.bag low high type) (parameter.list ps)

-- the type has these items: those of a BOOLEAN, a LOGICAL or an enumeration
pub data HasItems (s : Schema) : TypeUse → List (List ℕ) → Type 0 where
  of_boolean : HasItems s schema.boolean boolean_items
  of_logical : HasItems s schema.logical logical_items
  of_enumeration : (t : ℕ) (words : List (List ℕ)) → kind_of s t ≡ Some (items words) → HasItems s (schema.defined t) words

-- characters or bits within the width of the type
abbrev pub HasWidth : TypeUse → Param → Type 0
HasWidth (schema.text width) (parameter.text chars) = IsWithinWidth width (length chars)
HasWidth (schema.bits width) (parameter.bits bs) = IsWithinWidth width (length bs)
HasWidth other p = Unit {0}

-- a number of elements that the bounds of an aggregate allow; an array has one for each index
abbrev pub AllowsCount : TypeUse → ℕ → Type 0
AllowsCount (schema.array low high optional unique type) n = n + low ≡ high + 1
AllowsCount (schema.list low high unique type) n = IsWithinBounds low high n
AllowsCount (schema.set low high type) n = IsWithinBounds low high n
AllowsCount (schema.bag low high type) n = IsWithinBounds low high n
AllowsCount other n = Unit {0}

-- the type of the elements of an aggregate, and whether a place of it may be empty
abbrev pub element_type : TypeUse → Option (Bool × TypeUse)
element_type (schema.array low high optional unique type) = Some (optional, type)
element_type (schema.list low high unique type) = Some (false, type)
element_type (schema.set low high type) = Some (false, type)
element_type (schema.bag low high type) = Some (false, type)
element_type other = None

-- no two elements may be the same: a SET, a LIST OF UNIQUE or an ARRAY OF UNIQUE
abbrev pub IsUnique : TypeUse → Type 0
IsUnique (schema.array low high optional unique type) = unique ≡ true
IsUnique (schema.list low high unique type) = unique ≡ true
IsUnique (schema.set low high type) = Unit {0}
IsUnique other = ⊥
