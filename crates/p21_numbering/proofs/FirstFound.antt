-- The first that is found in a list, and what is found loose in values.
use Rattle.std.specs.BTreeMap.{BTreeMap, Updates, get}
use Rattle.std.specs.Ordering.{nat_cmp}
use Rattle.std.specs.Prelude.{◌≡◌, ℕ, zero, suc, ◌+◌, ◌<◌, ◌≤◌, Bool, true, false, List, [], ◌∷◌, ◌++◌, Option, Some, None, cond, filter, length, map, nat_eq, take, refl}
use Rattle.std.proofs.Common.{arith, ap, sym, ◌∙◌, inl, inr, get_or, append_assoc}
use Rattle.std.proofs.lemmas.Bool.{cases_eq, eq-eqb, eqb-true}
use Rattle.std.proofs.lemmas.List.{append-nil, length-take-le, map-append, take_all, take_more}
use Rattle.p21_spec_basics.proofs.Comparing.{is_at-other}
use Rattle.p21_spec_numbering.specs.Graph.{how_many}
use Rattle.p21_spec_numbering.specs.Uses.{Use}
use Rattle.p21_mapping_values.specs.declared.value.Value.{Value}
use Rattle.p21_mapping_values.specs.declared.value.Values.{Values}
use Rattle.p21_mapping_values.specs.TypedView.{rows_view}
use Rattle.p21_mapping_values.specs.View.{list_of, view, views}
use Rattle.p21_numbering.specs.declared.uses.PlacedUse.{PlacedUse}
use Rattle.p21_numbering.specs.NewNames.{new_name}
use Rattle.p21_numbering.specs.PlacedUses.{held_uses}
use Rattle.p21_numbering.specs.Standing.{IsCount, Standing, first_of, listed, loose_among, loose_element, loose_in, loose_rows, loose_value, of_rank, plain_name, plain_names}
use Rattle.p21_numbering.proofs.PartSizes.{count-bound}
use Rattle.p21_numbering.proofs.Walks.{map-more}

-- what the function gives of the first for which it gives anything
abbrev pub first_in : {X : Type 0} → (X → Option ℕ) → List X → Option ℕ
first_in f [] = None
first_in f (x ∷ xs) = first_of (f x) (first_in f xs)

-- nothing so far, and nothing in the next one
pub first-next : {X : Type 0} (f : X → Option ℕ) (xs : List X) (i : ℕ) (x : X) → x ≡ get_or xs i x → i < length xs
    → first_in f (take i xs) ≡ None → f x ≡ None → first_in f (take (i + 1) xs) ≡ None
first-next f [] i x is low none next = absurd (omega (arith, low))
first-next f (y ∷ ys) zero x is low none next =
    let one : zero + 1 ≡ 1 = omega arith in
    ap (λ k. first_in f (take k (y ∷ ys))) one ∙ ap (λ o. first_of o None) (ap f (sym is) ∙ next)
first-next f (y ∷ ys) (suc i) x is low none next =
    let more : suc i + 1 ≡ suc (i + 1) = omega arith in
    ap (λ k. first_in f (take k (y ∷ ys))) more ∙ by (f y) (λ earlier. first-next f ys i x is (omega (arith, low)) earlier next) none
  where
    by : (o : Option ℕ) → (first_in f (take i ys) ≡ None → first_in f (take (i + 1) ys) ≡ None) → first_of o (first_in f (take i ys)) ≡ None
        → first_of o (first_in f (take (i + 1) ys)) ≡ None
    by None rest nothing = rest nothing
    by (Some n) rest nothing = cc

-- nothing so far, and then this
pub first-found : {X : Type 0} (f : X → Option ℕ) (xs : List X) (i : ℕ) (x : X) (n : ℕ) → x ≡ get_or xs i x → i < length xs
    → first_in f (take i xs) ≡ None → f x ≡ Some n → first_in f xs ≡ Some n
first-found f [] i x n is low none next = absurd (omega (arith, low))
first-found f (y ∷ ys) zero x n is low none next = ap (λ o. first_of o (first_in f ys)) (ap f (sym is) ∙ next)
first-found f (y ∷ ys) (suc i) x n is low none next = by (f y) (λ earlier. first-found f ys i x n is (omega (arith, low)) earlier next) none
  where
    by : (o : Option ℕ) → (first_in f (take i ys) ≡ None → first_in f ys ≡ Some n) → first_of o (first_in f (take i ys)) ≡ None
        → first_of o (first_in f ys) ≡ Some n
    by None rest nothing = rest nothing
    by (Some k) rest nothing = cc

pub first-none : {X : Type 0} (f : X → Option ℕ) (xs : List X) (i : ℕ) → length xs ≤ i → first_in f (take i xs) ≡ None
    → first_in f xs ≡ None
first-none f xs i high none = ap (first_in f) (sym (take_all i xs high)) ∙ none

-- ---- values

pub loose-in : (st : Standing) (xs : List Value) → first_in (λ (v : Value). loose_value st (view v)) xs ≡ loose_in st (views xs)
loose-in st [] = refl
loose-in st (x ∷ xs) = ap (first_of (loose_value st (view x))) (loose-in st xs)

pub loose-among : (st : Standing) (ns : List ℕ) (xs : List Value)
    → first_in (λ (v : Value). loose_element st ns (view v)) xs ≡ loose_among st ns (views xs)
loose-among st ns [] = refl
loose-among st ns (x ∷ xs) = ap (first_of (loose_element st ns (view x))) (loose-among st ns xs)

pub loose-rows : (st : Standing) (rows : List Values)
    → first_in (λ (row : Values). loose_in st (views (list_of row))) rows ≡ loose_rows st (rows_view rows)
loose-rows st [] = refl
loose-rows st (r ∷ rs) = ap (first_of (loose_in st (views (list_of r)))) (loose-rows st rs)

-- ---- plain references

plain-push : (xs : List Value) (x : Value) → plain_names (views (xs ++ x ∷ [])) ≡ plain_names (views xs) ++ listed (plain_name (view x))
plain-push [] x = append-nil (listed (plain_name (view x)))
plain-push (y ∷ ys) x =
    ap (λ (ns : List ℕ). listed (plain_name (view y)) ++ ns) (plain-push ys x)
    ∙ sym (append_assoc (listed (plain_name (view y))) (plain_names (views ys)) (listed (plain_name (view x))))

pub plain-next : (xs : List Value) (i : ℕ) (x : Value) → x ≡ get_or xs i x → i < length xs
    → plain_names (views (take (i + 1) xs)) ≡ plain_names (views (take i xs)) ++ listed (plain_name (view x))
plain-next xs i x is low = ap (λ (ys : List Value). plain_names (views ys))
    (take_more xs i x low ∙ ap (λ (y : Value). take i xs ++ y ∷ []) (sym is)) ∙ plain-push (take i xs) x

-- 1 where it holds
abbrev tick : Bool → ℕ
tick b = cond b 1 0

count-push : {X : Type 0} (p : X → Bool) (xs : List X) (x : X) → how_many p (xs ++ x ∷ []) ≡ how_many p xs + tick (p x)
count-push p [] x = omega arith
count-push p (y ∷ ys) x = omega (arith, count-push p ys x)

not-eqb : (j k : ℕ) → (j ≡ k → ⊥) → nat_eq j k ≡ false
not-eqb j k other = by (nat_eq j k) refl
  where
    by : (b : Bool) → nat_eq j k ≡ b → nat_eq j k ≡ false
    by true e = absurd (other (eqb-true j k e))
    by false e = e

pub count-next : (st : Standing) (ns : List ℕ) (i : ℕ) (before after : BTreeMap ℕ ℕ) → i < length ns
    → Updates nat_cmp before after (st.rank (get_or ns i 0)) (Some (new_name before (st.rank (get_or ns i 0)) + 1))
    → IsCount st (take i ns) before → IsCount st (take (i + 1) ns) after
count-next st ns i before after low updates so_far rank =
    let here : ℕ = st.rank (get_or ns i 0) in
    let all : of_rank st (take (i + 1) ns) rank ≡ of_rank st (take i ns) rank + tick (nat_eq here rank) =
    ap (how_many (λ n. nat_eq (st.rank n) rank)) (take_more ns i 0 low)
    ∙ count-push (λ n. nat_eq (st.rank n) rank) (take i ns) (get_or ns i 0) in
    elim (cases_eq rank here) [
      | inl same ↦
          let got : new_name after rank ≡ new_name before here + 1 =
          ap (λ (o : Option ℕ). elim o [ Some new ↦ new | None ↦ 0 ]) (ap (get nat_cmp after) same ∙ updates.1) in
          let one : tick (nat_eq here rank) ≡ 1 = ap tick (eq-eqb here rank (sym same)) in
          let was : new_name before here ≡ of_rank st (take i ns) rank = ap (new_name before) (sym same) ∙ so_far rank in
          omega (arith, all, got, one, was)
      | inr other ↦
          let got : new_name after rank ≡ new_name before rank =
          ap (λ (o : Option ℕ). elim o [ Some new ↦ new | None ↦ 0 ]) (updates.2 rank (is_at-other here rank other)) in
          let none : tick (nat_eq here rank) ≡ 0 = ap tick (not-eqb here rank (λ same. other (sym same))) in
          let was = so_far rank in
          omega (arith, all, got, none, was)
    ]

pub count-low : (st : Standing) (ns : List ℕ) (i : ℕ) (counts : BTreeMap ℕ ℕ) → i ≤ length ns → IsCount st (take i ns) counts → (rank : ℕ)
    → new_name counts rank ≤ i
count-low st ns i counts low are rank =
    let bound = count-bound (λ n. nat_eq (st.rank n) rank) (take i ns) in
    let is = are rank in
    omega (arith, is, bound, length-take-le i ns low)

-- the first positions of a list of names, by a test
filter-joined : (p : ℕ → Bool) (xs ys : List ℕ) → filter p (xs ++ ys) ≡ filter p xs ++ filter p ys
filter-joined p [] ys = refl
filter-joined p (x ∷ xs) ys = by (p x) (filter-joined p xs ys)
  where
    by : (b : Bool) → filter p (xs ++ ys) ≡ filter p xs ++ filter p ys
        → cond b (x ∷ filter p (xs ++ ys)) (filter p (xs ++ ys)) ≡ cond b (x ∷ filter p xs) (filter p xs) ++ filter p ys
    by true more = ap (λ (zs : List ℕ). x ∷ zs) more
    by false more = more

pub shared-next : (p : ℕ → Bool) (uses : List PlacedUse) (k : ℕ) (u : PlacedUse) → u ≡ get_or uses k u → k < length uses
    → filter p (map (λ (v : Use). v.1) (held_uses (take (k + 1) uses))) ≡ filter p (map (λ (v : Use). v.1) (held_uses (take k uses)))
    ++ filter p (u.target ∷ [])
shared-next p uses k u is low =
    ap (λ (us : List Use). filter p (map (λ (v : Use). v.1) us)) (map-more (λ (v : PlacedUse). (v.place.items, v.target)) uses k u is low)
    ∙ ap (filter p) (map-append (λ (v : Use). v.1) (held_uses (take k uses)) ((u.place.items, u.target) ∷ []))
    ∙ filter-joined p (map (λ (v : Use). v.1) (held_uses (take k uses))) (u.target ∷ [])
