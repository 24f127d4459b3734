-- Maps by places.
use Rattle.std.specs.Prelude.{◌≡◌, ◌≢◌, ◌⊎◌, ◌+◌, ℕ, true, false, List, [], ◌∷◌, ◌++◌, Option, None, Some, MatchOption, length, slice_get, Contains, refl}
use Rattle.std.specs.BTreeMap.{BTreeMap, Updates, is_at}
use Rattle.std.specs.Ordering.{is_eq, nat_cmp, ordering_then}
use Rattle.std.specs.declared.cmp.Ordering.{Ordering}
use Rattle.std.specs.declared.cmp.Ordering.TheVariants.{Less, Equal, Greater}
use Rattle.std.proofs.Common.{arith, ap, sym, ◌∙◌, inl, inr}
use Rattle.std.proofs.lemmas.Bool.{cases_eq}
use Rattle.std.proofs.lemmas.List.Elements.{Contains-push_cases}
use Rattle.p21_spec_basics.proofs.Comparing.{is_at-other}
use Rattle.p21_spec_basics.proofs.Members.{Contains-none, at-behind, at-front}
use Rattle.p21_spec_schema.specs.Schema.{Place}
use Rattle.p21_schema.specs.PlacePositions.{FindsPlaces, at_place, pair_cmp}

then-first : (a o : Ordering) → is_eq a ≡ false → is_eq (ordering_then a o) ≡ false
then-first Less o differ = refl
then-first Equal o differ = let t : true ≡ false = differ in cc
then-first Greater o differ = refl

then-second : (a o : Ordering) → is_eq o ≡ false → is_eq (ordering_then a o) ≡ false
then-second Less o differ = refl
then-second Equal o differ = differ
then-second Greater o differ = refl

-- two places are one, or their keys differ
place-cases : (p q : Place) → (q ≡ p) ⊎ (is_at (pair_cmp (p.entity, p.index)) (q.entity, q.index) ≡ false)
place-cases p q = elim (cases_eq q.entity p.entity) [
  | inl same ↦ elim (cases_eq q.index p.index) [
    | inl at ↦ inl (ap (λ e. record { entity = e; index = q.index }) same ∙ ap (λ i. record { entity = p.entity; index = i }) at)
    | inr differ ↦ inr (then-second (nat_cmp p.entity q.entity) (nat_cmp p.index q.index) (is_at-other p.index q.index differ))
  ]
  | inr differ ↦ inr (then-first (nat_cmp p.entity q.entity) (nat_cmp p.index q.index) (is_at-other p.entity q.entity differ))
]

pub same-or : (p q : Place) → (q ≡ p) ⊎ (q ≢ p)
same-or p q = elim (cases_eq q.entity p.entity) [
  | inl same ↦ elim (cases_eq q.index p.index) [
    | inl at ↦ inl (ap (λ e. record { entity = e; index = q.index }) same ∙ ap (λ i. record { entity = p.entity; index = i }) at)
    | inr differ ↦ inr (λ is. differ (ap (λ r. r.index) is))
  ]
  | inr differ ↦ inr (λ is. differ (ap (λ r. r.entity) is))
]

pub places-none : (found : BTreeMap (ℕ × ℕ) ℕ) → ((p : Place) → at_place found p ≡ None) → FindsPlaces found []
places-none found none = record {
  right = λ p at is. (let no : None ≡ Some at = sym (none p) ∙ is in cc);
  all = λ p is among. Contains-none p among;
}

-- one place more
pub places-more : (before after : BTreeMap (ℕ × ℕ) ℕ) (places : List Place) (p : Place) (at : ℕ) → at ≡ length places
    → FindsPlaces before places → Updates pair_cmp before after (p.entity, p.index) (Some at) → FindsPlaces after (places ++ p ∷ [])
places-more before after places p at long so_far updates = record {
  right = λ q k is. elim (place-cases p q) [
    | inl same ↦
        let here : Some at ≡ Some k = sym updates.1 ∙ ap (at_place after) (sym same) ∙ is in
        let k_is : at ≡ k = cc in
        let stands : slice_get (places ++ p ∷ []) (length places + 0) ≡ Some p = at-behind places (p ∷ []) 0 p refl in
        let index : k ≡ length places + 0 = omega (arith, long, k_is) in
        ap (slice_get (places ++ p ∷ [])) index ∙ stands ∙ ap Some (sym same)
    | inr differ ↦ at-front places (p ∷ []) k q (so_far.right q k (sym (updates.2 (q.entity, q.index) differ) ∙ is))
  ];
  all = λ q none among. elim (place-cases p q) [
    | inl same ↦ let no : Some at ≡ None = sym updates.1 ∙ ap (at_place after) (sym same) ∙ none in cc
    | inr differ ↦ elim (Contains-push_cases places p q among) [
      | inl old ↦ so_far.all q (sym (updates.2 (q.entity, q.index) differ) ∙ none) old
      | inr new ↦ let no : Some at ≡ None = sym updates.1 ∙ ap (at_place after) new ∙ none in cc
    ]
  ];
}

-- what is found of a place
pub finds-option : (found : BTreeMap (ℕ × ℕ) ℕ) (places : List Place) → FindsPlaces found places → (p : Place) (result : Option ℕ)
    → at_place found p ≡ result → MatchOption result (Contains places p → ⊥) (λ at. slice_get places at ≡ Some p)
finds-option found places is p None at = is.all p at
finds-option found places is p (Some k) at = is.right p k at
