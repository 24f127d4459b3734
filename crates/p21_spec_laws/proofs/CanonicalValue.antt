-- A canonical parameter has the text of the value that it stands for.
use Rattle.std.specs.Prelude.{◌≡◌, ℕ, Bool, true, false, List, [], ◌∷◌, ◌++◌, codes, Option, Some, None, refl}
use Rattle.std.proofs.Common.{ap, sym, ◌∙◌}
use Rattle.p21_spec_file.specs.CanonicalRecord.{IsCanonicalParam, AreCanonicalParams}
use Rattle.p21_spec_exchange.specs.CanonicalText.{param_text, param_texts}
use Rattle.p21_spec_file.specs.Fits.{Fits, a_whole, a_real, a_number, a_whole_number, a_boolean, a_logical, a_text, a_binary, an_instance, as_underlying, an_item, a_chosen_instance, a_chosen_type, an_array, a_list, a_set, a_bag, FitEach, none_left, fits_next, empty_next, FitsAt, star, dollar, fits}
use Rattle.p21_spec_exchange.specs.Parameter.{Param, Params, key_of}
use Rattle.p21_spec_schema.specs.PlaceType.{PlaceType}
use Rattle.p21_spec_file.specs.Reference.{EntitySets}
use Rattle.p21_spec_schema.specs.Schema as schema
use Rattle.p21_spec_schema.specs.Schema.{Schema, Defined, TypeUse, TypeNamed}
use Rattle.p21_spec_exchange.specs.Token as token
use Rattle.p21_spec_file.specs.Value.{Value, Values}
use Rattle.p21_spec_file.specs.Sorting.{sort_texts}
use Rattle.p21_spec_file.specs.ValueText.{type_name, list_text, value_text, value_texts}
use Rattle.p21_spec_laws.proofs.ParamTexts.{one-token, list-is, typed-is}
use Rattle.p21_spec_laws.proofs.Sorting.{sort-rising}

-- the name of a type is the one that it has
pub named-is : (s : Schema) (t : ℕ) (name : List ℕ) → TypeNamed s t name → type_name s t ≡ name
named-is s t name (x, at, is) = ap (λ (o : Option Defined). elim o [ Some d ↦ d.name | None ↦ [] ]) at ∙ is

mutual
  pub canonical-text : (s : Schema) (kinds : EntitySets) (type : TypeUse) (p : Param) (v : Value) → Fits s kinds type p v → IsCanonicalParam p v → param_text p ≡ value_text s v
  canonical-text s kinds type p v (a_whole z) canonical = one-token (token.whole z)
  canonical-text s kinds type p v (a_real d) canonical = one-token (token.real d)
  canonical-text s kinds type p v (a_number d) canonical = one-token (token.real d)
  canonical-text s kinds type p v (a_whole_number z d _ _ _) canonical = absurd (canonical tt)
  canonical-text s kinds type p v (a_boolean word _) canonical = one-token (token.item word)
  canonical-text s kinds type p v (a_logical word _) canonical = one-token (token.item word)
  canonical-text s kinds type p v (a_text _ chars _) canonical = one-token (token.text chars)
  canonical-text s kinds type p v (a_binary _ bs _) canonical = one-token (token.bits bs)
  canonical-text s kinds type p v (an_instance _ n _) canonical = one-token (token.name n)
  canonical-text s kinds type p v (as_underlying _ under _ _ _ fit) canonical = canonical-text s kinds under p v fit canonical
  canonical-text s kinds type p v (an_item _ _ word _ _) canonical = one-token (token.item word)
  canonical-text s kinds type p v (a_chosen_instance _ n _) canonical = one-token (token.name n)
  canonical-text s kinds type p v (a_chosen_type _ u name q x _ named fit) canonical =
      typed-is (key_of name) q ∙ ap (λ (y : List ℕ). name ++ (codes "(" ++ (y ++ codes ")"))) (canonical-text s kinds (schema.defined u) q x fit canonical)
      ∙ ap (λ (y : List ℕ). y ++ (codes "(" ++ (value_text s x ++ codes ")"))) (sym (named-is s u name named))
  canonical-text s kinds type p v (an_array _ _ optional _ element ps vs each _ _) canonical = list-is ps ∙ ap list_text (canonical-texts s kinds optional element ps vs each canonical.0)
  canonical-text s kinds type p v (a_list _ _ _ element ps vs each _ _) canonical = list-is ps ∙ ap list_text (canonical-texts s kinds false element ps vs each canonical.0)
  canonical-text s kinds type p v (a_set _ _ element ps vs each _ _) canonical =
      list-is ps ∙ ap list_text (sym (sort-rising (param_texts ps) (canonical.1 tt)) ∙ ap sort_texts (canonical-texts s kinds false element ps vs each canonical.0))
  canonical-text s kinds type p v (a_bag _ _ element ps vs each _) canonical =
      list-is ps ∙ ap list_text (sym (sort-rising (param_texts ps) (canonical.1 tt)) ∙ ap sort_texts (canonical-texts s kinds false element ps vs each canonical.0))

  pub canonical-texts : (s : Schema) (kinds : EntitySets) (optional : Bool) (type : TypeUse) (ps : Params) (vs : Values) → FitEach s kinds optional type ps vs → AreCanonicalParams ps vs → param_texts ps ≡ value_texts s vs
  canonical-texts s kinds optional type ps vs (none_left _ _) canonical = refl
  canonical-texts s kinds optional type ps vs (fits_next _ _ p v ps_ vs_ fit each) canonical =
      ap (λ (x : List ℕ). x ∷ param_texts ps_) (canonical-text s kinds type p v fit canonical.0) ∙ ap (λ (xs : List (List ℕ)). value_text s v ∷ xs) (canonical-texts s kinds optional type ps_ vs_ each canonical.1)
  canonical-texts s kinds optional type ps vs (empty_next _ ps_ vs_ each) canonical = ap (λ (xs : List (List ℕ)). codes "$" ∷ xs) (canonical-texts s kinds true type ps_ vs_ each canonical.1)

-- and so at a place
pub canonical_at-text : (s : Schema) (kinds : EntitySets) (at : PlaceType) (p : Param) (v : Value) → FitsAt s kinds at p v → IsCanonicalParam p v → param_text p ≡ value_text s v
canonical_at-text s kinds at p v star canonical = refl
canonical_at-text s kinds at p v (dollar _) canonical = refl
canonical_at-text s kinds at p v (fits _ type _ _ fit) canonical = canonical-text s kinds type p v fit canonical
