-- The canonical parameter of a value whose tokens have spellings.
use Rattle.std.proofs.Common.{◌≡◌, ℕ, ◌+◌, ◌<◌, ◌≤◌, Bool, true, false, List, [], ◌∷◌, ◌++◌, length, take, get_or, if◌then◌else◌, codes, refl, ap, sym, ◌∙◌, subst, append_assoc, Result}
use Rattle.std.proofs.lemmas.List.{take_all, take_more}
use Rattle.std.specs.Result.{OnOk}
use Rattle.p21_spec_laws.proofs.CanonicalParam.{canonical_param, canonical_params, insert_param, sort_params}
use Rattle.p21_spec_laws.proofs.CanonicalValue.{named-is}
use Rattle.p21_spec_laws.proofs.OfType.{AreWritten}
use Rattle.p21_spec_laws.specs.Written.{IsWritten}
use Rattle.p21_mapping_values.proofs.WrittenParams.{list-said, on_any, typed-said}
use Rattle.p21_spec_exchange.specs.CanonicalText.{param_text}
use Rattle.p21_spec_exchange.specs.Parameter.{Param, key_of, params_of}
use Rattle.p21_spec_file.specs.Sorting.{is_below}
use Rattle.p21_spec_file.specs.Value.{Value, whole, real, number, text, bits, item, reference, derived, missing, list, array, set, bag, typed, Values, no_values, value}
use Rattle.p21_spec_file.specs.ValueText.{type_name, value_text}
use Rattle.p21_mapping_values.specs.declared.value.Value as stored
use Rattle.p21_mapping_values.specs.View.{view, views}
use Rattle.p21_mapping_values.specs.Spelled.{AreSpelled, IsSpelledValue}
use Rattle.p21_spec_schema.specs.Schema.{Schema, TypeNamed}

insert-written : (p : Param) (ps : List Param) → IsWritten p → AreWritten (params_of ps) → AreWritten (params_of (insert_param p ps))
insert-written p [] first rest = (first, tt)
insert-written p (q ∷ qs) first rest = by_test (is_below (param_text q) (param_text p)) (insert-written p qs first rest.1)
  where
    by_test : (b : Bool) → AreWritten (params_of (insert_param p qs))
        → AreWritten (params_of (if b then q ∷ insert_param p qs else p ∷ q ∷ qs))
    by_test true more = (rest.0, more)
    by_test false more = (first, rest)

sort-written : (ps : List Param) → AreWritten (params_of ps) → AreWritten (params_of (sort_params ps))
sort-written [] written = tt
sort-written (p ∷ ps) written = insert-written p (sort_params ps) written.0 (sort-written ps written.1)

mutual
  pub spelled-written : (s : Schema) (v : Value) → IsSpelledValue s v → IsWritten (canonical_param s v)
  spelled-written s (whole z) spelled = (spelled, tt)
  spelled-written s (real d) spelled = (spelled, tt)
  spelled-written s (number d) spelled = (spelled, tt)
  spelled-written s (text characters) spelled = (spelled, tt)
  spelled-written s (bits bs) spelled = (spelled, tt)
  spelled-written s (item word) spelled = (spelled, tt)
  spelled-written s (reference n) spelled = (spelled, tt)
  spelled-written s derived spelled = ((codes "*", refl), tt)
  spelled-written s missing spelled = ((codes "$", refl), tt)
  spelled-written s (list vs) spelled = list-said (params_of (canonical_params s vs)) (all-written s vs spelled)
  spelled-written s (array vs) spelled = list-said (params_of (canonical_params s vs)) (all-written s vs spelled)
  spelled-written s (set vs) spelled = list-said (params_of (sort_params (canonical_params s vs)))
      (sort-written (canonical_params s vs) (all-written s vs spelled))
  spelled-written s (bag vs) spelled = list-said (params_of (sort_params (canonical_params s vs)))
      (sort-written (canonical_params s vs) (all-written s vs spelled))
  spelled-written s (typed t v) spelled = typed-said (key_of (type_name s t)) (canonical_param s v) spelled.0
      (spelled-written s v spelled.1)

  pub all-written : (s : Schema) (vs : Values) → AreSpelled s vs → AreWritten (params_of (canonical_params s vs))
  all-written s no_values spelled = tt
  all-written s (value v vs) spelled = (spelled-written s v spelled.0, all-written s vs spelled.1)

-- ---- values in a row

spelled-push : (s : Schema) (xs : List stored.Value) (x : stored.Value) → AreSpelled s (views xs) → IsSpelledValue s (view x)
    → AreSpelled s (views (xs ++ x ∷ []))
spelled-push s [] x spelled is = (is, tt)
spelled-push s (y ∷ ys) x spelled is = (spelled.0, spelled-push s ys x spelled.1 is)

-- a value more
pub spelled-more : (s : Schema) (xs : List stored.Value) (i : ℕ) (x : stored.Value) → x ≡ get_or xs i x → i < length xs
    → AreSpelled s (views (take i xs)) → IsSpelledValue s (view x) → AreSpelled s (views (take (i + 1) xs))
spelled-more s xs i x is low spelled last =
    let more : take (i + 1) xs ≡ take i xs ++ x ∷ [] = take_more xs i x low ∙ ap (λ (y : stored.Value). take i xs ++ y ∷ []) (sym is) in
    subst (λ (ys : List stored.Value). AreSpelled s (views ys)) (sym more) (spelled-push s (take i xs) x spelled last)

pub spelled-all : (s : Schema) (xs : List stored.Value) (i : ℕ) → length xs ≤ i → AreSpelled s (views (take i xs)) → AreSpelled s (views xs)
spelled-all s xs i all spelled = subst (λ (ys : List stored.Value). AreSpelled s (views ys)) (take_all i xs all) spelled

-- ---- one value

-- what is meant can be written, and so can what is stored
pub spelled-by : {T E : Type 0} (s : Schema) (r : Result T E) (v w : Value) → v ≡ w → IsSpelledValue s w → OnOk r (IsSpelledValue s v)
spelled-by s r v w is spelled = on_any r (IsSpelledValue s v) (subst (IsSpelledValue s) (sym is) spelled)

-- a typed value by its pieces
pub tagged-text : (s : Schema) (t : ℕ) (v inner : Value) (name old named opened valued closed : List ℕ) → v ≡ typed t inner
    → TypeNamed s t name → named ≡ old ++ name → opened ≡ named ++ 40 ∷ [] → valued ≡ opened ++ value_text s inner
    → closed ≡ valued ++ 41 ∷ [] → closed ≡ old ++ value_text s v
tagged-text s t v inner name old named opened valued closed is is_name e f g h =
    let all : value_text s v ≡ name ++ (40 ∷ (value_text s inner ++ 41 ∷ [])) = ap (value_text s) is
    ∙ ap (λ (x : List ℕ). x ++ (40 ∷ (value_text s inner ++ 41 ∷ []))) (named-is s t name is_name) in
    rw (h, g, f, e, all) (simp append_assoc refl)
