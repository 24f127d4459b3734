-- A canonical parameter is nested no deeper than any other of the value.
use Rattle.std.specs.Prelude.{◌≡◌, max, ◌≤◌, Bool, true, false, List, [], ◌∷◌, if◌then◌else◌, refl}
use Rattle.std.proofs.Common.{arith, ap, ◌∙◌}
use Rattle.p21_spec_exchange.specs.CanonicalText.{param_text}
use Rattle.p21_spec_file.specs.Fits.{Fits, a_whole, a_real, a_number, a_whole_number, a_boolean, a_logical, a_text, a_binary, an_instance, as_underlying, an_item, a_chosen_instance, a_chosen_type, an_array, a_list, a_set, a_bag, FitEach, none_left, fits_next, empty_next}
use Rattle.p21_spec_exchange.specs.Nesting.{depth, params_depth}
use Rattle.p21_spec_exchange.specs.Parameter.{Param, Params, params_of}
use Rattle.p21_spec_file.specs.Reference.{EntitySets}
use Rattle.p21_spec_schema.specs.Schema as schema
use Rattle.p21_spec_schema.specs.Schema.{Schema, TypeUse}
use Rattle.p21_spec_file.specs.Value.{Value, Values}
use Rattle.p21_spec_laws.proofs.CanonicalParam.{canonical_param, canonical_params, insert_param, sort_params}
use Rattle.p21_spec_file.specs.Sorting.{is_below}

insert-depth : (p : Param) (ps : List Param) → params_depth (params_of (insert_param p ps)) ≡ max (depth p) (params_depth (params_of ps))
insert-depth p [] = refl
insert-depth p (q ∷ qs) = by_test (is_below (param_text q) (param_text p)) (insert-depth p qs)
  where
    by_test : (b : Bool) → params_depth (params_of (insert_param p qs)) ≡ max (depth p) (params_depth (params_of qs))
        → params_depth (params_of (if b then q ∷ insert_param p qs else p ∷ q ∷ qs)) ≡ max (depth p) (max (depth q) (params_depth (params_of qs)))
    by_test true more = omega (arith, more)
    by_test false more = refl

sort-depth : (ps : List Param) → params_depth (params_of (sort_params ps)) ≡ params_depth (params_of ps)
sort-depth [] = refl
sort-depth (p ∷ ps) = insert-depth p (sort_params ps) ∙ ap (max (depth p)) (sort-depth ps)

mutual
  pub canonical-depth : (s : Schema) (kinds : EntitySets) (type : TypeUse) (p : Param) (v : Value) → Fits s kinds type p v → depth (canonical_param s v) ≤ depth p
  canonical-depth s kinds type p v (a_whole _) = omega arith
  canonical-depth s kinds type p v (a_real _) = omega arith
  canonical-depth s kinds type p v (a_number _) = omega arith
  canonical-depth s kinds type p v (a_whole_number _ _ _ _ _) = omega arith
  canonical-depth s kinds type p v (a_boolean _ _) = omega arith
  canonical-depth s kinds type p v (a_logical _ _) = omega arith
  canonical-depth s kinds type p v (a_text _ _ _) = omega arith
  canonical-depth s kinds type p v (a_binary _ _ _) = omega arith
  canonical-depth s kinds type p v (an_instance _ _ _) = omega arith
  canonical-depth s kinds type p v (as_underlying _ under _ _ _ fit) = canonical-depth s kinds under p v fit
  canonical-depth s kinds type p v (an_item _ _ _ _ _) = omega arith
  canonical-depth s kinds type p v (a_chosen_instance _ _ _) = omega arith
  canonical-depth s kinds type p v (a_chosen_type _ u _ q x _ _ fit) = omega (arith, canonical-depth s kinds (schema.defined u) q x fit)
  canonical-depth s kinds type p v (an_array _ _ optional _ element ps vs each _ _) = omega (arith, canonical-depths s kinds optional element ps vs each)
  canonical-depth s kinds type p v (a_list _ _ _ element ps vs each _ _) = omega (arith, canonical-depths s kinds false element ps vs each)
  canonical-depth s kinds type p v (a_set _ _ element ps vs each _ _) = omega (arith, canonical-depths s kinds false element ps vs each, sort-depth (canonical_params s vs))
  canonical-depth s kinds type p v (a_bag _ _ element ps vs each _) = omega (arith, canonical-depths s kinds false element ps vs each, sort-depth (canonical_params s vs))

  canonical-depths : (s : Schema) (kinds : EntitySets) (optional : Bool) (type : TypeUse) (ps : Params) (vs : Values) → FitEach s kinds optional type ps vs → params_depth (params_of (canonical_params s vs)) ≤ params_depth ps
  canonical-depths s kinds optional type ps vs (none_left _ _) = omega arith
  canonical-depths s kinds optional type ps vs (fits_next _ _ p v ps_ vs_ fit each) = omega (arith, canonical-depth s kinds type p v fit, canonical-depths s kinds optional type ps_ vs_ each)
  canonical-depths s kinds optional type ps vs (empty_next _ ps_ vs_ each) = omega (arith, canonical-depths s kinds true type ps_ vs_ each)
