-- Parameters that fit have no user keyword.
use Rattle.std.proofs.Common.{ℕ, Bool, true, false, List, [], ◌∷◌}
use Rattle.std.specs.List.{AllByRecursion as Each}
use Rattle.p21_spec_basics.proofs.Members.{Each-append}
use Rattle.p21_spec_laws.proofs.Printing.{ArePlain, IsPlain, list-plain}
use Rattle.p21_spec_laws.specs.Needs.{FitsAtWithNeeds, FitsWithNeeds, FitEachWithNeeds, with_whole, with_real, with_number, with_whole_number, with_boolean, with_logical, with_text, with_binary, with_instance, with_underlying, with_item, with_chosen_instance, with_chosen_type, with_array, with_list, with_set, with_bag, with_none, with_next, with_empty, with_star, with_dollar, with_fit}
use Rattle.p21_spec_exchange.specs.Grammar.{IsNoUserKeyword}
use Rattle.p21_spec_exchange.specs.Parameter.{Param, Params, param_tokens}
use Rattle.p21_spec_exchange.specs.Token as token
use Rattle.p21_spec_file.specs.Reference.{Need}
use Rattle.p21_spec_file.specs.Value.{Value, Values}
use Rattle.p21_spec_schema.specs.PlaceType.{PlaceType}
use Rattle.p21_spec_schema.specs.Schema as schema
use Rattle.p21_spec_schema.specs.Schema.{Schema, TypeUse}
use Rattle.p21_shorter_instances.specs.TakenParameters.{IsPlacedParameter, PlacedParameter, params_at}

mutual
  fits-plain : (s : Schema) (type : TypeUse) (p : Param) (v : Value) (needs : List Need) → FitsWithNeeds s type p v needs → IsPlain p
  fits-plain s type p v needs (with_whole _) = (tt, tt)
  fits-plain s type p v needs (with_real _) = (tt, tt)
  fits-plain s type p v needs (with_number _) = (tt, tt)
  fits-plain s type p v needs (with_whole_number _ _ _ _ _) = (tt, tt)
  fits-plain s type p v needs (with_boolean _ _) = (tt, tt)
  fits-plain s type p v needs (with_logical _ _) = (tt, tt)
  fits-plain s type p v needs (with_text _ _ _) = (tt, tt)
  fits-plain s type p v needs (with_binary _ _ _) = (tt, tt)
  fits-plain s type p v needs (with_instance _ _) = (tt, tt)
  fits-plain s type p v needs (with_underlying _ under _ _ _ _ fit) = fits-plain s under p v needs fit
  fits-plain s type p v needs (with_item _ _ _ _ _) = (tt, tt)
  fits-plain s type p v needs (with_chosen_instance _ _ _ _) = (tt, tt)
  fits-plain s type p v needs (with_chosen_type _ u _ q x _ _ _ fit) =
      (tt, (tt, Each-append IsNoUserKeyword (param_tokens q) (token.right ∷ []) (fits-plain s (schema.defined u) q x needs fit) (tt, tt)))
  fits-plain s type p v needs (with_array _ _ optional _ element ps vs _ each _ _) =
      list-plain ps (each-plain s optional element ps vs needs each)
  fits-plain s type p v needs (with_list _ _ _ element ps vs _ each _ _) = list-plain ps (each-plain s false element ps vs needs each)
  fits-plain s type p v needs (with_set _ _ element ps vs _ each _ _) = list-plain ps (each-plain s false element ps vs needs each)
  fits-plain s type p v needs (with_bag _ _ element ps vs _ each _) = list-plain ps (each-plain s false element ps vs needs each)

  each-plain : (s : Schema) (optional : Bool) (type : TypeUse) (ps : Params) (vs : Values) (needs : List Need)
      → FitEachWithNeeds s optional type ps vs needs → ArePlain ps
  each-plain s optional type ps vs needs (with_none _ _) = tt
  each-plain s optional type ps vs needs (with_next _ _ p v ps_ vs_ first more fit each) =
      (fits-plain s type p v first fit, each-plain s optional type ps_ vs_ more each)
  each-plain s optional type ps vs needs (with_empty _ ps_ vs_ _ each) = ((tt, tt), each-plain s true type ps_ vs_ needs each)

at-plain : (s : Schema) (at : PlaceType) (p : Param) (v : Value) (needs : List Need) → FitsAtWithNeeds s at p v needs → IsPlain p
at-plain s at p v needs with_star = (tt, tt)
at-plain s at p v needs (with_dollar _) = (tt, tt)
at-plain s at p v needs (with_fit _ type _ _ _ fit) = fits-plain s type p v needs fit

pub placed-plain : (s : Schema) (entities : List ℕ) (ps : List PlacedParameter) → Each (IsPlacedParameter s entities) ps
    → ArePlain (params_at ps)
placed-plain s entities [] each = tt
placed-plain s entities (p ∷ ps) each = (at-plain s each.0.at p.parameter p.value p.needs each.0.fits, placed-plain s entities ps each.1)
