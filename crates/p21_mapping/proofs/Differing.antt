-- Values of one type are distinct exactly if their texts are.
use Rattle.std.proofs.Common.{◌≡◌, ◌≢◌, ◌∙◌, ◌↔◌, sym, ap, refl, subst, inl, inr, arith, ℕ, ◌+◌, ◌<◌, ◌≤◌, Bool, true, List, [], ◌∷◌, ◌++◌, length, map, take, get_or, IsTrue, Contains, append_assoc}
use Rattle.std.proofs.lemmas.List.{map-append, take_all, take_more}
use Rattle.p21_spec_basics.proofs.Members.{Contains-none, Contains-first, Contains-later, Contains-cases}
use Rattle.p21_spec_laws.proofs.OfType.{OfType, EachOf, of_none, of_next, of_empty, missing-of_none}
use Rattle.p21_spec_laws.proofs.SameFromTexts.{same-from_text}
use Rattle.p21_spec_laws.proofs.TextsFromSame.{text-from_same, same-missing}
use Rattle.p21_spec_file.specs.SameValue.{Among, here, there, AreDistinct}
use Rattle.p21_spec_file.specs.Value as meant
use Rattle.p21_spec_file.specs.Value.{Values, value, missing}
use Rattle.p21_spec_file.specs.ValueText.{value_text}
use Rattle.p21_mapping.specs.PresentTexts.{one, present_texts}
use Rattle.p21_mapping_values.proofs.Elements.{split_texts-joined}
use Rattle.p21_mapping_values.specs.SplitTexts.{NoneTwice, joined, split_texts, lengths_of}
use Rattle.p21_mapping_values.specs.declared.value.Value.{Value}
use Rattle.p21_mapping_values.specs.View.{row_of_values, view, views}
use Rattle.p21_spec_schema.specs.Schema.{Schema, TypeUse}
use Rattle.p21_spec_schema.specs.WellFormed.{HasDistinctTypes}

-- ---- texts one behind the other

joined-append : (xs ys : List (List ℕ)) → joined (xs ++ ys) ≡ joined xs ++ joined ys
joined-append [] ys = refl
joined-append (x ∷ xs) ys = ap (λ (more : List ℕ). x ++ more) (joined-append xs ys) ∙ sym (append_assoc x (joined xs) (joined ys))

-- ---- one value more

present-snoc : (s : Schema) (ms : List meant.Value) (m : meant.Value)
    → present_texts s (row_of_values (ms ++ m ∷ [])) ≡ present_texts s (row_of_values ms) ++ present_texts s (one m)
present-snoc s [] m = refl
present-snoc s (missing ∷ ms) m = present-snoc s ms m
present-snoc s (other ∷ ms) m = ap (λ (texts : List (List ℕ)). value_text s other ∷ texts) (present-snoc s ms m)

present-more : (s : Schema) (vs : List Value) (i : ℕ) (x : Value) → x ≡ get_or vs i x → i < length vs
    → present_texts s (views (take (i + 1) vs)) ≡ present_texts s (views (take i vs)) ++ present_texts s (one (view x))
present-more s vs i x is low =
    let taken : take (i + 1) vs ≡ take i vs ++ x ∷ [] = take_more vs i x low ∙ ap (λ (y : Value). take i vs ++ y ∷ []) (sym is) in
    ap (λ (ys : List Value). present_texts s (views ys)) taken
    ∙ ap (λ (ms : List meant.Value). present_texts s (row_of_values ms)) (map-append view (take i vs) (x ∷ []))
    ∙ present-snoc s (map view (take i vs)) (view x)

pub bytes-more : (s : Schema) (vs : List Value) (i : ℕ) (x : Value) (bytes more : List ℕ) → x ≡ get_or vs i x → i < length vs
    → bytes ≡ joined (present_texts s (views (take i vs))) → more ≡ bytes ++ joined (present_texts s (one (view x)))
    → more ≡ joined (present_texts s (views (take (i + 1) vs)))
bytes-more s vs i x bytes more is low e f = f ∙ ap (λ (ys : List ℕ). ys ++ joined (present_texts s (one (view x)))) e
    ∙ sym (joined-append (present_texts s (views (take i vs))) (present_texts s (one (view x))))
    ∙ ap joined (sym (present-more s vs i x is low))

pub lengths-more : (s : Schema) (vs : List Value) (i : ℕ) (x : Value) (long more : List ℕ) → x ≡ get_or vs i x → i < length vs
    → long ≡ lengths_of (present_texts s (views (take i vs))) → more ≡ long ++ lengths_of (present_texts s (one (view x)))
    → more ≡ lengths_of (present_texts s (views (take (i + 1) vs)))
lengths-more s vs i x long more is low e f =
    f ∙ ap (λ (ys : List ℕ). ys ++ lengths_of (present_texts s (one (view x)))) e
    ∙ sym (map-append (λ (text : List ℕ). length text) (present_texts s (views (take i vs))) (present_texts s (one (view x))))
    ∙ ap lengths_of (sym (present-more s vs i x is low))

-- ---- distinct

present-some : (s : Schema) (v : meant.Value) (vs : Values) → v ≢ missing
    → present_texts s (value v vs) ≡ value_text s v ∷ present_texts s vs
present-some s missing vs some = absurd (some refl)
present-some s other vs some = refl

module _ (s : Schema) (distinct : HasDistinctTypes s) where
  text-among : (optional : Bool) (type : TypeUse) (v : meant.Value) → OfType s type v → (vs : Values) → EachOf s optional type vs
      → Contains (present_texts s vs) (value_text s v) → Among v vs
  text-among optional type v of vs (of_none _ _) among = absurd (Contains-none (value_text s v) among)
  text-among optional type v of vs (of_next _ _ w ws of_ each) among =
      elim (Contains-cases (value_text s w) (present_texts s ws) (value_text s v)
      (subst (λ (texts : List (List ℕ)). Contains texts (value_text s v)) (present-some s w ws (missing-of_none s type w of_)) among)) [
        | inl h ↦ here v w ws (same-from_text s distinct type v w of of_ (sym h))
        | inr h ↦ there v w ws (text-among optional type v of ws each h)
      ]
  text-among optional type v of vs (of_empty _ ws each) among = there v missing ws (text-among true type v of ws each among)

  among-text : (optional : Bool) (type : TypeUse) (v : meant.Value) → OfType s type v → (vs : Values) → EachOf s optional type vs
      → Among v vs → Contains (present_texts s vs) (value_text s v)
  among-text optional type v of vs (of_none _ _) among = elim among [ ]
  among-text optional type v of vs (of_next _ _ w ws of_ each) (here _ _ _ same) =
      subst (λ (texts : List (List ℕ)). Contains texts (value_text s v)) (sym (present-some s w ws (missing-of_none s type w of_)))
      (subst (λ (text : List ℕ). Contains (value_text s w ∷ present_texts s ws) text) (sym (text-from_same s distinct type v w of of_ same))
      (Contains-first (value_text s w) (present_texts s ws)))
  among-text optional type v of vs (of_next _ _ w ws of_ each) (there _ _ _ among) =
      subst (λ (texts : List (List ℕ)). Contains texts (value_text s v)) (sym (present-some s w ws (missing-of_none s type w of_)))
      (Contains-later (value_text s w) (present_texts s ws) (value_text s v) (among-text optional type v of ws each among))
  among-text optional type v of vs (of_empty _ ws each) (here _ _ _ same) = absurd (missing-of_none s type v of (same-missing v same))
  among-text optional type v of vs (of_empty _ ws each) (there _ _ _ among) = among-text true type v of ws each among

  texts-differ : (optional : Bool) (type : TypeUse) (vs : Values) → EachOf s optional type vs → AreDistinct vs
      → NoneTwice (present_texts s vs)
  texts-differ optional type vs (of_none _ _) differ = tt
  texts-differ optional type vs (of_next _ _ v ws of each) differ =
      subst NoneTwice (sym (present-some s v ws (missing-of_none s type v of))) (
        (λ among. differ.0 (missing-of_none s type v of) (text-among optional type v of ws each among)),
        texts-differ optional type ws
            each differ.1,
      )
  texts-differ optional type vs (of_empty _ ws each) differ = texts-differ true type ws each differ.1

  values-differ : (optional : Bool) (type : TypeUse) (vs : Values) → EachOf s optional type vs → NoneTwice (present_texts s vs)
      → AreDistinct vs
  values-differ optional type vs (of_none _ _) none = tt
  values-differ optional type vs (of_next _ _ v ws of each) none =
      let none_ = subst NoneTwice (present-some s v ws (missing-of_none s type v of)) none in
      ((λ some among. none_.0 (among-text optional type v of ws each among)), values-differ optional type ws each none_.1)
  values-differ optional type vs (of_empty _ ws each) none = ((λ some. absurd (some refl)), values-differ true type ws each none)

  pub differ-by_texts : (optional : Bool) (type : TypeUse) (vs : List Value) (i : ℕ) (bytes long : List ℕ) (different : Bool)
      → EachOf s optional type (views vs) → length vs ≤ i → bytes ≡ joined (present_texts s (views (take i vs)))
      → long ≡ lengths_of (present_texts s (views (take i vs)))
      → IsTrue different ↔ NoneTwice (split_texts bytes long) → IsTrue different ↔ AreDistinct (views vs)
  differ-by_texts optional type vs i bytes long different each above e f h =
      let all = ap (λ (ys : List Value). present_texts s (views ys)) (take_all i vs above) in
      let same : split_texts bytes long ≡ present_texts s (views vs) = ap (λ (ys : List ℕ). split_texts ys long) e
      ∙ ap (split_texts (joined (present_texts s (views (take i vs))))) f ∙ split_texts-joined (present_texts s (views (take i vs)))
      ∙ all in (
        λ is_true. values-differ optional type (views vs) each (subst NoneTwice same (h.0 is_true)),
        λ differ. h.1
            (subst NoneTwice (sym same) (texts-differ optional type (views vs) each differ)),
      )

-- where there is one at most
pub few-differ : (vs : List Value) → length vs < 2 → AreDistinct (views vs)
few-differ [] few = tt
few-differ (v ∷ []) few = (λ some among. elim among [ ], tt)
few-differ (v ∷ w ∷ vs) few = absurd (omega (arith, few))
