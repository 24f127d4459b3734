-- A parameter stands for at most one value at a type, whatever the sets of the instances, where no two types have one name.
use Rattle.std.specs.Prelude.{◌≡◌, ℕ, Bool, true, false, List, Some, refl}
use Rattle.std.proofs.Common.{arith, ap, sym, subst, ◌∙◌}
use Rattle.p21_spec_exchange.specs.Number.{ratio_of}
use Rattle.p21_spec_schema.specs.Schema as schema
use Rattle.p21_spec_schema.specs.Schema.{Schema, TypeUse, Member, alias, items, choice, kind_of}
use Rattle.p21_spec_schema.specs.PlaceType.{PlaceType}
use Rattle.p21_spec_schema.specs.Select.{Offers, offered, offered_within}
use Rattle.p21_spec_exchange.specs.Parameter.{Param, dollar as p_dollar, Params}
use Rattle.p21_spec_file.specs.Value.{Value, number, missing, list, array, set, bag, typed, Values, value}
use Rattle.p21_spec_file.specs.Reference.{EntitySets}
use Rattle.p21_spec_file.specs.Fits.{Fits, a_whole, a_real, a_number, a_whole_number, a_boolean, a_logical, a_text, a_binary, an_instance, as_underlying, an_item, a_chosen_instance, a_chosen_type, an_array, a_list, a_set, a_bag, FitEach, none_left, fits_next, empty_next, FitsAt, star, dollar, fits}
use Rattle.p21_spec_schema.specs.WellFormed.{HasDistinctTypes}
use Rattle.p21_spec_exchange.proofs.Ratios.{ratio-transitive, ratio-positive}
use Rattle.p21_spec_exchange.proofs.ReducedDecimals.{reduced_once}

-- what offers something is a select
pub offers_choice : (s : Schema) (t : ℕ) (m : Member) → Offers s t m → (members : List Member) × (kind_of s t ≡ Some (choice members))
offers_choice s t m (offered _ members _ is among no_select) = (members, is)
offers_choice s t m (offered_within _ u members _ is among more) = (members, is)

-- an alias is no select
pub alias_offers_nothing : (s : Schema) (t : ℕ) (type : TypeUse) (m : Member) → kind_of s t ≡ Some (alias type) → Offers s t m → ⊥
alias_offers_nothing s t type m is offers = let (members, is_choice) = offers_choice s t m offers in let h : Some (alias type) ≡ Some (choice members) = sym is ∙ is_choice in cc

-- no type takes `$`
pub dollar-fits_nothing : (s : Schema) (kinds : EntitySets) (type : TypeUse) (v : Value) → Fits s kinds type p_dollar v → ⊥
dollar-fits_nothing s kinds type v (as_underlying t under _ _ is fit) = dollar-fits_nothing s kinds under v fit

mutual
  pub Fits-one_value : (s : Schema) (kinds others : EntitySets) → HasDistinctTypes s → (type : TypeUse) (p : Param) (v w : Value) → Fits s kinds type p v → Fits s others type p w → v ≡ w
  Fits-one_value s kinds others distinct type p v w (a_whole _) (a_whole _) = refl
  Fits-one_value s kinds others distinct type p v w (a_real _) (a_real _) = refl
  Fits-one_value s kinds others distinct type p v w (a_number _) (a_number _) = refl
  Fits-one_value s kinds others distinct type p v w (a_whole_number z d reduced range ratio) (a_whole_number _ e reduced_ range_ ratio_) =
      ap number (reduced_once d e reduced reduced_ (ratio-transitive (ratio_of d) (record { numerator = z; denominator = 1 }) (ratio_of e) (ratio-positive d) (omega arith) (ratio-positive e) ratio (sym ratio_)))
  Fits-one_value s kinds others distinct type p v w (a_boolean _ _) (a_boolean _ _) = refl
  Fits-one_value s kinds others distinct type p v w (a_logical _ _) (a_logical _ _) = refl
  Fits-one_value s kinds others distinct type p v w (a_text _ _ _) (a_text _ _ _) = refl
  Fits-one_value s kinds others distinct type p v w (a_binary _ _ _) (a_binary _ _ _) = refl
  Fits-one_value s kinds others distinct type p v w (an_instance _ _ _) (an_instance _ _ _) = refl
  Fits-one_value s kinds others distinct type p v w (as_underlying t under _ _ is fit) (as_underlying _ under_ _ _ is_ fit_) =
      let same : under_ ≡ under = let h : Some (alias under_) ≡ Some (alias under) = sym is_ ∙ is in cc in
      let P : TypeUse → Type 0 = λ u. Fits s others u p w in
      Fits-one_value s kinds others distinct under p v w fit (subst P same fit_)
  Fits-one_value s kinds others distinct type p v w (as_underlying t under _ _ is fit) (an_item _ words word is_ among) = let h : Some (alias under) ≡ Some (items words) = sym is ∙ is_ in cc
  Fits-one_value s kinds others distinct type p v w (as_underlying t under _ _ is fit) (a_chosen_instance _ n served) = absurd (alias_offers_nothing s t under (schema.entity_member served.2.0) is served.2.1)
  Fits-one_value s kinds others distinct type p v w (as_underlying t under _ _ is fit) (a_chosen_type _ u name _ _ offers named fit_) = absurd (alias_offers_nothing s t under (schema.type_member u) is offers)
  Fits-one_value s kinds others distinct type p v w (an_item t words word is among) (as_underlying _ under _ _ is_ fit) = let h : Some (alias under) ≡ Some (items words) = sym is_ ∙ is in cc
  Fits-one_value s kinds others distinct type p v w (an_item t words word is among) (an_item _ _ _ _ _) = refl
  Fits-one_value s kinds others distinct type p v w (a_chosen_instance t n served) (as_underlying _ under _ _ is fit) = absurd (alias_offers_nothing s t under (schema.entity_member served.2.0) is served.2.1)
  Fits-one_value s kinds others distinct type p v w (a_chosen_instance t n served) (a_chosen_instance _ _ _) = refl
  Fits-one_value s kinds others distinct type p v w (a_chosen_type t u name _ _ offers named fit) (as_underlying _ under _ _ is fit_) = absurd (alias_offers_nothing s t under (schema.type_member u) is offers)
  Fits-one_value s kinds others distinct type p v w (a_chosen_type t u name q x offers named fit) (a_chosen_type _ u_ _ _ y offers_ named_ fit_) =
      let same : u_ ≡ u = distinct u_ u name named_ named in
      let P : ℕ → Type 0 = λ k. Fits s others (schema.defined k) q y in
      ap (λ k. typed k x) (sym same) ∙ ap (typed u_) (Fits-one_value s kinds others distinct (schema.defined u) q x y fit (subst P same fit_))
  Fits-one_value s kinds others distinct type p v w (an_array _ _ optional _ element ps vs each _ _) (an_array _ _ _ _ _ _ ws each_ _ _) = ap array (FitEach-one_value s kinds others distinct optional element ps vs ws each each_)
  Fits-one_value s kinds others distinct type p v w (a_list _ _ _ element ps vs each _ _) (a_list _ _ _ _ _ ws each_ _ _) = ap list (FitEach-one_value s kinds others distinct false element ps vs ws each each_)
  Fits-one_value s kinds others distinct type p v w (a_set _ _ element ps vs each _ _) (a_set _ _ _ _ ws each_ _ _) = ap set (FitEach-one_value s kinds others distinct false element ps vs ws each each_)
  Fits-one_value s kinds others distinct type p v w (a_bag _ _ element ps vs each _) (a_bag _ _ _ _ ws each_ _) = ap bag (FitEach-one_value s kinds others distinct false element ps vs ws each each_)

  pub FitEach-one_value : (s : Schema) (kinds others : EntitySets) → HasDistinctTypes s → (optional : Bool) (type : TypeUse) (ps : Params) (vs ws : Values) → FitEach s kinds optional type ps vs → FitEach s others optional type ps ws → vs ≡ ws
  FitEach-one_value s kinds others distinct optional type ps vs ws (none_left _ _) (none_left _ _) = refl
  FitEach-one_value s kinds others distinct optional type ps vs ws (fits_next _ _ p v ps_ vs_ fit each) (fits_next _ _ _ w _ ws_ fit_ each_) =
      ap (λ x. value x vs_) (Fits-one_value s kinds others distinct type p v w fit fit_) ∙ ap (value w) (FitEach-one_value s kinds others distinct optional type ps_ vs_ ws_ each each_)
  FitEach-one_value s kinds others distinct optional type ps vs ws (fits_next _ _ p v ps_ vs_ fit each) (empty_next _ _ _ _) = absurd (dollar-fits_nothing s kinds type v fit)
  FitEach-one_value s kinds others distinct optional type ps vs ws (empty_next _ _ _ _) (fits_next _ _ p w _ _ fit _) = absurd (dollar-fits_nothing s others type w fit)
  FitEach-one_value s kinds others distinct optional type ps vs ws (empty_next _ ps_ vs_ each) (empty_next _ _ ws_ each_) = ap (value missing) (FitEach-one_value s kinds others distinct true type ps_ vs_ ws_ each each_)

-- at one type of a place a parameter stands for at most one value, whatever the sets of the instances
pub FitsAt-one_value : (s : Schema) (kinds others : EntitySets) → HasDistinctTypes s → (at : PlaceType) (p : Param) (v w : Value) → FitsAt s kinds at p v → FitsAt s others at p w → v ≡ w
FitsAt-one_value s kinds others distinct at p v w star star = refl
FitsAt-one_value s kinds others distinct at p v w (dollar _) (dollar _) = refl
FitsAt-one_value s kinds others distinct at p v w (dollar type) (fits _ _ _ _ fit) = absurd (dollar-fits_nothing s others type w fit)
FitsAt-one_value s kinds others distinct at p v w (fits _ type _ _ fit) (dollar _) = absurd (dollar-fits_nothing s kinds type v fit)
FitsAt-one_value s kinds others distinct at p v w (fits _ type _ _ fit) (fits _ _ _ _ fit_) = Fits-one_value s kinds others distinct type p v w fit fit_
