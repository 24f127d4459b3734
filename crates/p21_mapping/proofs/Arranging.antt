-- Rows that are put in the order of a set.
use Rattle.std.specs.Prelude.{◌≡◌, ◌≢◌, ℕ, zero, suc, ◌+◌, ◌<◌, ◌≤◌, List, [], ◌∷◌, ◌++◌, length, take, slice_get, slice_set, Some, Contains, refl, nat_eq}
use Rattle.std.specs.List.{IsDistinct, zip}
use Rattle.std.specs.Option.{option_map}
use Rattle.std.proofs.Common.{arith, ap, sym, ◌∙◌, subst, inl, inr, get_or}
use Rattle.std.proofs.lemmas.List.{take_all}
use Rattle.std.proofs.lemmas.List.Elements.{Contains-append_left, Contains-append_right}
use Rattle.std.proofs.lemmas.Option.{slice_get-map}
use Rattle.p21_spec_basics.proofs.Members.{Contains-cases, Contains-first, Contains-later, Contains-found}
use Rattle.p21_spec_basics.proofs.Shuffles.{NoneTwice, distinct-none_twice}
use Rattle.p21_express_graph.proofs.Lookups.{numbers-more}
use Rattle.p21_express_graph.specs.Orders.{numbers}
use Rattle.p21_express_graph.specs.declared.number.EntityId.{EntityId}
use Rattle.p21_spec_file.specs.Value.{Values}
use Rattle.p21_mapping.specs.ArrangedRows.{AreArranged, ArrangedSoFar}
use Rattle.p21_express_graph.proofs.Pairs.{AllZip-more}
use Rattle.p21_mapping.proofs.GrownLists.{mapped-at}
use Rattle.p21_mapping_values.specs.declared.value.Values.{Values as Stored}
use Rattle.p21_mapping_values.specs.TypedView.{rows_view}
use Rattle.p21_mapping_values.specs.View.{list_of, views}

zip-at : {X Y : Type 0} (xs : List X) (ys : List Y) (k : ℕ) (x : X) (y : Y) → slice_get xs k ≡ Some x → slice_get ys k ≡ Some y
    → Contains (zip xs ys) (x, y)
zip-at [] ys k x y at at_ = cc
zip-at (z ∷ xs) [] k x y at at_ = cc
zip-at {X} {Y} (z ∷ xs) (w ∷ ys) zero x y at at_ =
    let left : z ≡ x = cc in
    let right : w ≡ y = cc in
    let P : X → Type 0 = λ v. Contains (zip (z ∷ xs) (w ∷ ys)) (v, y) in
    let Q : Y → Type 0 = λ v. Contains (zip (z ∷ xs) (w ∷ ys)) (z, v) in
    subst P left (subst Q right (Contains-first (z, w) (zip xs ys)))
zip-at (z ∷ xs) (w ∷ ys) (suc k) x y at at_ = Contains-later (z, w) (zip xs ys) (x, y) (zip-at xs ys k x y at at_)

set-other : {X : Type 0} (xs : List X) (i k : ℕ) (x : X) → k ≢ i → slice_get (slice_set xs i x) k ≡ slice_get xs k
set-other [] i k x differ = refl
set-other (y ∷ xs) zero zero x differ = absurd (differ refl)
set-other (y ∷ xs) zero (suc k) x differ = refl
set-other (y ∷ xs) (suc i) zero x differ = refl
set-other (y ∷ xs) (suc i) (suc k) x differ = set-other xs i k x (λ same. differ (ap suc same))

-- an element behind a front without a repeat is not in that front
fresh : (es : List EntityId) (k : ℕ) (d : EntityId) → k < length es → NoneTwice (numbers es)
    → Contains (numbers (take k es)) (get_or es k d).0 → ⊥
fresh [] k d below none among = absurd (omega (arith, below))
fresh (e ∷ es) zero d below none (n, low, is) = absurd (omega (arith, low))
fresh (e ∷ es) (suc k) d below none among = elim (Contains-cases e.0 (numbers (take k es)) (get_or es k d).0 among) [
  | inl h ↦ none.0 (let P : ℕ → Type 0 = λ x. Contains (numbers es) x in
      subst P (sym h) (Contains-found (numbers es) k (get_or es k d).0 (mapped-at (λ (x : EntityId). x.0) es k d (omega (arith, below)))))
  | inr h ↦ fresh es k d (omega (arith, below)) none.1 h
]

module _ (entities listed : List EntityId) (rows : List Stored) where
  pub arranged-begins : length rows ≡ length listed → ArrangedSoFar entities listed rows 0 rows []
  arranged-begins long = record { done = tt; left_are = λ k e at new. refl; long = long }

  pub arranged-more : (i at : ℕ) (d : EntityId) (row empty e_ : Stored) (left after : List Stored) (all all_after : List Stored)
      → i < length entities → IsDistinct nat_eq (numbers entities) → slice_get (numbers listed) at ≡ Some (get_or entities i d).0
      → at < length listed
      → row ≡ get_or left at e_ → after ≡ slice_set left at empty → length after ≡ length left → all_after ≡ all ++ row ∷ []
      → ArrangedSoFar entities listed rows i left all → ArrangedSoFar entities listed rows (i + 1) after all_after
  arranged-more i at d row empty e_ left after all all_after below differ there within row_is after_is same pushed so =
      let e : ℕ = (get_or entities i d).0 in
      let new : Contains (numbers (take i entities)) e → ⊥ = fresh entities i d below (distinct-none_twice (numbers entities) differ) in
      let v : Values = views (list_of row) in
      let here : slice_get (rows_view left) at ≡ Some v =
      mapped-at (λ (x : Stored). views (list_of x)) left at e_ (omega (arith, within, so.long))
      ∙ ap (λ (x : Stored). Some (views (list_of x))) (sym row_is) in
      let own : slice_get (rows_view rows) at ≡ Some v = sym (so.left_are at e there new) ∙ here in
      record {
        done = AllZip-more (λ f vs. Contains (zip (numbers listed) (rows_view rows)) (f, vs)) (λ (x : EntityId). x.0)
            (λ (x : Stored). views (list_of x)) entities i d all all_after row below pushed so.done
            (zip-at (numbers listed) (rows_view rows) at e v there own);
        left_are = λ k f at_ none.
            let P : List ℕ → Type 0 = λ xs. Contains xs f in
            let earlier : Contains (numbers (take i entities)) f
            → ⊥ = λ among. none (subst P (sym (numbers-more (λ (x : EntityId). x.0) entities i d below))
            (Contains-append_left (numbers (take i entities)) (e ∷ []) f among)) in
            let other : k ≢ at = λ is. none (let h : Some f ≡ Some e = sym at_ ∙ ap (slice_get (numbers listed)) is
            ∙ there in let same_ : f ≡ e = cc in
            subst P (sym (numbers-more (λ (x : EntityId). x.0) entities i d below))
            (let Q : ℕ → Type 0 = λ x. Contains (numbers (take i entities) ++ e ∷ []) x in
            subst Q (sym same_) (Contains-append_right (numbers (take i entities)) (e ∷ []) e (Contains-first e [])))) in
            slice_get-map (λ (x : Stored). views (list_of x)) after k
            ∙ ap (option_map (λ (x : Stored). views (list_of x))) (ap (λ xs. slice_get xs k) after_is ∙ set-other left at k empty other)
            ∙ sym (slice_get-map (λ (x : Stored). views (list_of x)) left k) ∙ so.left_are k f at_ earlier;
        long = same ∙ so.long;
      }

  pub arranged-ends : (i : ℕ) (left all : List Stored) → length entities ≤ i → ArrangedSoFar entities listed rows i left all
      → AreArranged (numbers listed) (rows_view rows) (numbers entities) (rows_view all)
  arranged-ends i left all past so = let P : List EntityId
      → Type 0 = λ es. AreArranged (numbers listed) (rows_view rows) (numbers es) (rows_view all) in
      subst P (take_all i entities past) so.done
