-- What fits among some instances fits among more.
use Rattle.std.specs.Prelude.{ℕ, Bool, true, false, List, Contains}
use Rattle.p21_spec_file.specs.Fits.{Fits, a_whole, a_real, a_number, a_whole_number, a_boolean, a_logical, a_text, a_binary, an_instance, as_underlying, an_item, a_chosen_instance, a_chosen_type, an_array, a_list, a_set, a_bag, FitEach, none_left, fits_next, empty_next}
use Rattle.p21_spec_exchange.specs.Parameter.{Param, Params}
use Rattle.p21_spec_file.specs.Reference.{EntitySets, Need, IsServed}
use Rattle.p21_spec_schema.specs.Schema as schema
use Rattle.p21_spec_schema.specs.Schema.{Schema, TypeUse}
use Rattle.p21_spec_file.specs.Value.{Value, Values}

abbrev pub IsWider : EntitySets → EntitySets → Type 0
IsWider kinds wide = (x : ℕ × List ℕ) → Contains kinds x → Contains wide x

served-wider : (s : Schema) (kinds wide : EntitySets) → IsWider kinds wide → (need : Need) → IsServed s kinds need → IsServed s wide need
served-wider s kinds wide wider need (entities, among, serves) = (entities, wider (need.target, entities) among, serves)

mutual
  pub fits-wider : (s : Schema) (kinds wide : EntitySets) → IsWider kinds wide → (type : TypeUse) (p : Param) (v : Value) → Fits s kinds type p v → Fits s wide type p v
  fits-wider s kinds wide wider type p v (a_whole z) = a_whole z
  fits-wider s kinds wide wider type p v (a_real d) = a_real d
  fits-wider s kinds wide wider type p v (a_number d) = a_number d
  fits-wider s kinds wide wider type p v (a_whole_number z d reduced range same) = a_whole_number z d reduced range same
  fits-wider s kinds wide wider type p v (a_boolean word among) = a_boolean word among
  fits-wider s kinds wide wider type p v (a_logical word among) = a_logical word among
  fits-wider s kinds wide wider type p v (a_text width chars within) = a_text width chars within
  fits-wider s kinds wide wider type p v (a_binary width bs within) = a_binary width bs within
  fits-wider s kinds wide wider type p v (an_instance e n served) = an_instance e n (served-wider s kinds wide wider (record { target = n; wanted = schema.entity_member e }) served)
  fits-wider s kinds wide wider type p v (as_underlying t under _ _ is fit) = as_underlying t under p v is (fits-wider s kinds wide wider under p v fit)
  fits-wider s kinds wide wider type p v (an_item t words word is among) = an_item t words word is among
  fits-wider s kinds wide wider type p v (a_chosen_instance t n served) = a_chosen_instance t n (served-wider s kinds wide wider (record { target = n; wanted = schema.type_member t }) served)
  fits-wider s kinds wide wider type p v (a_chosen_type t u name q x offers named fit) = a_chosen_type t u name q x offers named (fits-wider s kinds wide wider (schema.defined u) q x fit)
  fits-wider s kinds wide wider type p v (an_array low high optional unique element ps vs each counted distinct) = an_array low high optional unique element ps vs (each-wider s kinds wide wider optional element ps vs each) counted distinct
  fits-wider s kinds wide wider type p v (a_list low high unique element ps vs each bounded distinct) = a_list low high unique element ps vs (each-wider s kinds wide wider false element ps vs each) bounded distinct
  fits-wider s kinds wide wider type p v (a_set low high element ps vs each bounded distinct) = a_set low high element ps vs (each-wider s kinds wide wider false element ps vs each) bounded distinct
  fits-wider s kinds wide wider type p v (a_bag low high element ps vs each bounded) = a_bag low high element ps vs (each-wider s kinds wide wider false element ps vs each) bounded

  pub each-wider : (s : Schema) (kinds wide : EntitySets) → IsWider kinds wide → (optional : Bool) (type : TypeUse) (ps : Params) (vs : Values) → FitEach s kinds optional type ps vs → FitEach s wide optional type ps vs
  each-wider s kinds wide wider optional type ps vs (none_left _ _) = none_left optional type
  each-wider s kinds wide wider optional type ps vs (fits_next _ _ p v ps_ vs_ fit each) = fits_next optional type p v ps_ vs_ (fits-wider s kinds wide wider type p v fit) (each-wider s kinds wide wider optional type ps_ vs_ each)
  each-wider s kinds wide wider optional type ps vs (empty_next _ ps_ vs_ each) = empty_next type ps_ vs_ (each-wider s kinds wide wider true type ps_ vs_ each)
