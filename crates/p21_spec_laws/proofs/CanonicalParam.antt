-- The canonical parameter of a value: the one of whose text the value's is.
use Rattle.std.specs.Prelude.{◌≡◌, ℕ, Bool, true, false, List, [], ◌∷◌, ◌++◌, codes, map, if◌then◌else◌, refl}
use Rattle.std.specs.List.{AllByRecursion as Each}
use Rattle.std.proofs.Common.{ap, sym, subst, ◌∙◌}
use Rattle.p21_spec_exchange.proofs.BitSpellings.{bits_spell}
use Rattle.p21_spec_exchange.proofs.WholeSpellings.{whole_spells}
use Rattle.p21_spec_schema.specs.Schema as schema
use Rattle.p21_spec_exchange.specs.CanonicalText.{param_text, param_texts}
use Rattle.p21_spec_exchange.specs.Parameter as parameter
use Rattle.p21_spec_exchange.specs.Parameter.{Param, key_of, listed, param_tokens, params_tokens, more_tokens, params_of}
use Rattle.p21_spec_schema.specs.Schema.{Schema, TypeUse}
use Rattle.p21_spec_exchange.specs.Spelling.{spelling}
use Rattle.p21_spec_exchange.specs.Token as token
use Rattle.p21_spec_file.specs.Value.{Value, whole, real, number, text, bits, item, reference, derived, missing, list, array, set, bag, typed, Values, no_values, value}
use Rattle.p21_spec_laws.proofs.CanonicalValue.{named-is}
use Rattle.p21_spec_laws.proofs.LaidTexts.{one-text}
use Rattle.p21_spec_laws.proofs.OfType.{OfType, of_whole, of_real, of_number, of_boolean, of_logical, of_text, of_binary, of_entity, of_alias, of_items, of_chosen_instance, of_chosen_type, of_array, of_list, of_set, of_bag, EachOf, of_none, of_next, of_empty}
use Rattle.p21_spec_laws.proofs.ParamTexts.{one-token, list-is, typed-is}
use Rattle.p21_spec_basics.proofs.Shuffles.{Shuffled, no_more, one_more, Shuffled-symmetric, Shuffled-transitive, Taken, taken_first, taken_later}
use Rattle.p21_spec_file.specs.Sorting.{is_below, insert_text, sort_texts}
use Rattle.p21_spec_file.specs.ValueText.{type_name, list_text, value_text, value_texts}
use Rattle.p21_spec_basics.proofs.Members.{Each-append}
use Rattle.p21_spec_laws.specs.Written.{IsWritten}
use Rattle.p21_spec_exchange.specs.Token.{IsSpelled}
use Rattle.p21_spec_exchange.proofs.Parameters.{listed-params}

abbrev pub insert_param : Param → List Param → List Param
insert_param p [] = p ∷ []
insert_param p (q ∷ qs) = if is_below (param_text q) (param_text p) then q ∷ insert_param p qs else p ∷ q ∷ qs

-- by their texts
abbrev pub sort_params : List Param → List Param
sort_params [] = []
sort_params (p ∷ ps) = insert_param p (sort_params ps)

abbrev mutual
  pub canonical_param : Schema → Value → Param
  canonical_param s (whole z) = parameter.whole z
  canonical_param s (real d) = parameter.real d
  canonical_param s (number d) = parameter.real d
  canonical_param s (text chars) = parameter.text chars
  canonical_param s (bits bs) = parameter.bits bs
  canonical_param s (item word) = parameter.item word
  canonical_param s (reference n) = parameter.name n
  canonical_param s derived = parameter.star
  canonical_param s missing = parameter.dollar
  canonical_param s (list vs) = parameter.list (params_of (canonical_params s vs))
  canonical_param s (array vs) = parameter.list (params_of (canonical_params s vs))
  canonical_param s (set vs) = parameter.list (params_of (sort_params (canonical_params s vs)))
  canonical_param s (bag vs) = parameter.list (params_of (sort_params (canonical_params s vs)))
  canonical_param s (typed t v) = parameter.typed (key_of (type_name s t)) (canonical_param s v)

  pub canonical_params : Schema → Values → List Param
  canonical_params s no_values = []
  canonical_params s (value v vs) = canonical_param s v ∷ canonical_params s vs

-- ---- lists

pub params_of-once : (ps qs : List Param) → params_of ps ≡ params_of qs → ps ≡ qs
params_of-once ps qs same = sym (listed-params ps) ∙ ap listed same ∙ listed-params qs

pub texts-of : (ps : List Param) → param_texts (params_of ps) ≡ map param_text ps
texts-of [] = refl
texts-of (p ∷ ps) = ap (λ (xs : List (List ℕ)). param_text p ∷ xs) (texts-of ps)

insert-texts : (p : Param) (ps : List Param) → map param_text (insert_param p ps) ≡ insert_text (param_text p) (map param_text ps)
insert-texts p [] = refl
insert-texts p (q ∷ qs) = by_test (is_below (param_text q) (param_text p)) (insert-texts p qs)
  where
    by_test : (b : Bool) → map param_text (insert_param p qs) ≡ insert_text (param_text p) (map param_text qs)
        → map param_text (if b then q ∷ insert_param p qs else p ∷ q ∷ qs) ≡ (if b then param_text q ∷ insert_text (param_text p) (map param_text qs) else param_text p ∷ param_text q ∷ map param_text qs)
    by_test true more = ap (λ (xs : List (List ℕ)). param_text q ∷ xs) more
    by_test false more = refl

pub sort-params_texts : (ps : List Param) → map param_text (sort_params ps) ≡ sort_texts (map param_text ps)
sort-params_texts [] = refl
sort-params_texts (p ∷ ps) = insert-texts p (sort_params ps) ∙ ap (insert_text (param_text p)) (sort-params_texts ps)

insert-taken : (p : Param) (ps : List Param) → Taken p (insert_param p ps) ps
insert-taken p [] = taken_first p [] refl
insert-taken p (q ∷ qs) = by_test (is_below (param_text q) (param_text p)) (insert-taken p qs)
  where
    by_test : (b : Bool) → Taken p (insert_param p qs) qs → Taken p (if b then q ∷ insert_param p qs else p ∷ q ∷ qs) (q ∷ qs)
    by_test true more = taken_later q (insert_param p qs) qs more
    by_test false more = taken_first p (q ∷ qs) refl

pub sort-shuffled : (ps : List Param) → Shuffled ps (sort_params ps)
sort-shuffled [] = no_more
sort-shuffled (p ∷ ps) = one_more p ps (insert_param p (sort_params ps)) (sort_params ps) (insert-taken p (sort_params ps)) (sort-shuffled ps)

-- parameters of one sorting are the same in another order
pub same-sorting : (ps qs : List Param) → sort_params ps ≡ sort_params qs → Shuffled ps qs
same-sorting ps qs same =
    let P : List Param → Type 0 = λ rs. Shuffled ps rs in
    Shuffled-transitive ps (sort_params qs) qs (subst P same (sort-shuffled ps)) (Shuffled-symmetric qs (sort_params qs) (sort-shuffled qs))

-- ---- the text of a value is that of its canonical parameter

mutual
  pub value_text-is : (s : Schema) (v : Value) → value_text s v ≡ param_text (canonical_param s v)
  value_text-is s (whole z) = sym (one-token (token.whole z))
  value_text-is s (real d) = sym (one-token (token.real d))
  value_text-is s (number d) = sym (one-token (token.real d))
  value_text-is s (text chars) = sym (one-token (token.text chars))
  value_text-is s (bits bs) = sym (one-token (token.bits bs))
  value_text-is s (item word) = sym (one-token (token.item word))
  value_text-is s (reference n) = sym (one-token (token.name n))
  value_text-is s derived = refl
  value_text-is s missing = refl
  value_text-is s (list vs) = ap list_text (value_texts-are s vs ∙ sym (texts-of (canonical_params s vs))) ∙ sym (list-is (params_of (canonical_params s vs)))
  value_text-is s (array vs) = ap list_text (value_texts-are s vs ∙ sym (texts-of (canonical_params s vs))) ∙ sym (list-is (params_of (canonical_params s vs)))
  value_text-is s (set vs) =
      ap list_text (ap sort_texts (value_texts-are s vs) ∙ sym (sort-params_texts (canonical_params s vs)) ∙ sym (texts-of (sort_params (canonical_params s vs)))) ∙ sym (list-is (params_of (sort_params (canonical_params s vs))))
  value_text-is s (bag vs) =
      ap list_text (ap sort_texts (value_texts-are s vs) ∙ sym (sort-params_texts (canonical_params s vs)) ∙ sym (texts-of (sort_params (canonical_params s vs)))) ∙ sym (list-is (params_of (sort_params (canonical_params s vs))))
  value_text-is s (typed t v) =
      ap (λ (x : List ℕ). type_name s t ++ (codes "(" ++ (x ++ codes ")"))) (value_text-is s v) ∙ sym (typed-is (key_of (type_name s t)) (canonical_param s v))

  pub value_texts-are : (s : Schema) (vs : Values) → value_texts s vs ≡ map param_text (canonical_params s vs)
  value_texts-are s no_values = refl
  value_texts-are s (value v vs) = ap (λ (x : List ℕ). x ∷ value_texts s vs) (value_text-is s v) ∙ ap (λ (xs : List (List ℕ)). param_text (canonical_param s v) ∷ xs) (value_texts-are s vs)

-- ---- the canonical parameter of a value of a type is written

insert-written : (p : Param) (ps : List Param) → IsWritten p → Each IsWritten ps → Each IsWritten (insert_param p ps)
insert-written p [] first each = (first, tt)
insert-written p (q ∷ qs) first each = by_test (is_below (param_text q) (param_text p)) (insert-written p qs first each.1)
  where
    by_test : (b : Bool) → Each IsWritten (insert_param p qs) → Each IsWritten (if b then q ∷ insert_param p qs else p ∷ q ∷ qs)
    by_test true more = (each.0, more)
    by_test false more = (first, each)

sort-written : (ps : List Param) → Each IsWritten ps → Each IsWritten (sort_params ps)
sort-written [] each = tt
sort-written (p ∷ ps) each = insert-written p (sort_params ps) each.0 (sort-written ps each.1)

more-written : (ps : List Param) → Each IsWritten ps → Each IsSpelled (more_tokens (params_of ps))
more-written [] each = tt
more-written (p ∷ ps) each = ((codes ",", refl), Each-append IsSpelled (param_tokens p) (more_tokens (params_of ps)) each.0 (more-written ps each.1))

params-written : (ps : List Param) → Each IsWritten ps → Each IsSpelled (params_tokens (params_of ps))
params-written [] each = tt
params-written (p ∷ ps) each = Each-append IsSpelled (param_tokens p) (more_tokens (params_of ps)) each.0 (more-written ps each.1)

list-written : (ps : List Param) → Each IsWritten ps → IsWritten (parameter.list (params_of ps))
list-written ps each = ((codes "(", refl), Each-append IsSpelled (params_tokens (params_of ps)) (token.right ∷ []) (params-written ps each) ((codes ")", refl), tt))

mutual
  pub canonical-written : (s : Schema) (type : TypeUse) (v : Value) → OfType s type v → IsWritten (canonical_param s v)
  canonical-written s type v (of_whole z) = ((spelling (token.whole z), whole_spells z), tt)
  canonical-written s type v (of_real d spelled) = (spelled, tt)
  canonical-written s type v (of_number d spelled) = (spelled, tt)
  canonical-written s type v (of_boolean word spelled) = (spelled, tt)
  canonical-written s type v (of_logical word spelled) = (spelled, tt)
  canonical-written s type v (of_text _ chars spelled) = (spelled, tt)
  canonical-written s type v (of_binary _ bs) = ((spelling (token.bits bs), bits_spell bs), tt)
  canonical-written s type v (of_entity _ n spelled) = (spelled, tt)
  canonical-written s type v (of_alias _ under _ _ of) = canonical-written s under v of
  canonical-written s type v (of_items _ _ word _ spelled) = (spelled, tt)
  canonical-written s type v (of_chosen_instance _ n _ spelled) = (spelled, tt)
  canonical-written s type v (of_chosen_type _ u name x _ named spelled of) =
      let P : List ℕ → Type 0 = λ word. IsSpelled (token.keyword word) in
      (subst P (sym (named-is s u name named)) spelled, ((codes "(", refl), Each-append IsSpelled (param_tokens (canonical_param s x)) (token.right ∷ []) (canonical-written s (schema.defined u) x of) ((codes ")", refl), tt)))
  canonical-written s type v (of_array _ _ optional _ element vs each) = list-written (canonical_params s vs) (canonical-all_written s optional element vs each)
  canonical-written s type v (of_list _ _ _ element vs each) = list-written (canonical_params s vs) (canonical-all_written s false element vs each)
  canonical-written s type v (of_set _ _ element vs each _) = list-written (sort_params (canonical_params s vs)) (sort-written (canonical_params s vs) (canonical-all_written s false element vs each))
  canonical-written s type v (of_bag _ _ element vs each) = list-written (sort_params (canonical_params s vs)) (sort-written (canonical_params s vs) (canonical-all_written s false element vs each))

  pub canonical-all_written : (s : Schema) (optional : Bool) (type : TypeUse) (vs : Values) → EachOf s optional type vs → Each IsWritten (canonical_params s vs)
  canonical-all_written s optional type vs (of_none _ _) = tt
  canonical-all_written s optional type vs (of_next _ _ v vs_ of each) = (canonical-written s type v of, canonical-all_written s optional type vs_ each)
  canonical-all_written s optional type vs (of_empty _ vs_ each) = (((codes "$", refl), tt), canonical-all_written s true type vs_ each)

-- values of one text have one canonical parameter
pub one-canonical_param : (s : Schema) (type other : TypeUse) (v w : Value) → OfType s type v → OfType s other w → value_text s v ≡ value_text s w → canonical_param s v ≡ canonical_param s w
one-canonical_param s type other v w of of_ same =
    one-text (canonical_param s v) (canonical_param s w) (canonical-written s type v of) (canonical-written s other w of_) (sym (value_text-is s v) ∙ same ∙ value_text-is s w)
