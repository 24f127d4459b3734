-- Rows put in the order of a set.
use Rattle.std.specs.Prelude.{◌≡◌, ◌<◌, ℕ, List, ◌++◌, length, map, take, slice_get, Some, nat_eq, Contains}
use Rattle.std.specs.List.{AllZip, IsDistinct, flat_map, zip}
use Rattle.p21_spec_exchange.specs.Parameter.{Param, listed}
use Rattle.p21_spec_exchange.specs.Record.{Part, Record, simple, complex}
use Rattle.p21_express_graph.specs.Orders.{numbers}
use Rattle.p21_express_graph.specs.declared.number.EntityId.{EntityId}
use Rattle.p21_spec_file.specs.Reference.{Need}
use Rattle.p21_spec_file.specs.Value.{Values}
use Rattle.p21_mapping.specs.Rows.{FitsRows}
use Rattle.p21_mapping_values.specs.declared.value.Values.{Values as Stored}
use Rattle.p21_mapping_values.specs.TypedView.{rows_view}
use Rattle.p21_spec_schema.specs.Schema.{Schema}

-- no entity twice
abbrev pub HasNoEntityTwice : List ℕ → Type 0
HasNoEntityTwice es = IsDistinct nat_eq es

-- each entity of the set stands beside the values that stand beside it in the list
abbrev pub AreArranged : List ℕ → List Values → List ℕ → List Values → Type 0
AreArranged es vss entities values = AllZip (λ e vs. Contains (zip es vss) (e, vs)) entities values

-- the parameters of a record, a list for each of its simple records, or cut by entities
abbrev pub AreParamsByEntity : Record → List (List Param) → Type 0
AreParamsByEntity (simple part) pss = flat_map (λ (ps : List Param). ps) pss ≡ listed part.params
AreParamsByEntity (complex parts) pss = (pss ≡ map (λ (part : Part). listed part.params) parts) × (0 < length parts)

-- the parameters of a record fit the places of its entities, one entity behind the other
pub record HasRows (s : Schema) (record_ : Record) (es entities : List ℕ) (vss : List Values) (old new : List Need) : Type 0 where
  pub params : List (List Param)
  pub added : List Need
  pub needed : new ≡ old ++ added
  pub fits : FitsRows s entities es params vss added
  pub cut : AreParamsByEntity record_ params

-- the first entities of a set have their rows, and the rows of the others are left
pub record ArrangedSoFar (entities es : List EntityId) (rows : List Stored) (index : ℕ) (left all : List Stored) : Type 0 where
  pub done : AreArranged (numbers es) (rows_view rows) (numbers (take index entities)) (rows_view all)
  pub left_are : (k e : ℕ) → slice_get (numbers es) k ≡ Some e → ¬ Contains (numbers (take index entities)) e
      → slice_get (rows_view left) k ≡ slice_get (rows_view rows) k
  pub long : length left ≡ length es
