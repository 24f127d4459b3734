-- Pairs, and those with one more.
use Rattle.std.specs.Prelude.{◌≡◌, ◌≢◌, ◌⊎◌, ◌<◌, ◌≤◌, ◌+◌, ◌-◌, ℕ, zero, suc, List, [], ◌∷◌, ◌++◌, Option, Some, None, length, slice_set, refl}
use Rattle.std.proofs.Common.{arith, ap, sym, ◌∙◌, get_or, inl, inr, length-set}
use Rattle.std.proofs.lemmas.Bool.{cases_eq}
use Rattle.std.proofs.lemmas.List.{get_or-append_right, get_or-set_same, get_or-set_other, get_or_append_left, get_or_past}
use Rattle.std.proofs.lemmas.Option.{none-some, same_Some}
use Rattle.p21_numbering.specs.Arrays.{rank_at}
use Rattle.p21_pairing.specs.Pairs.{AreJoined, AreMore, ArePairs, IsFree, partner_at}

cases_below : (k n : ℕ) → (k < n) ⊎ (n ≤ k)
cases_below k n = grind arith

-- what has a partner stands in the list
pub below-some : (partners : List (Option ℕ)) (k n : ℕ) → partner_at partners k ≡ Some n → k < length partners
below-some partners k n some = elim (cases_below k (length partners)) [
  | inl low ↦ low
  | inr past ↦ absurd (none-some n (sym (get_or_past partners k None past) ∙ some))
]

-- a partner or none
pub has-or_free : (o : Option ℕ) → (o ≡ None) ⊎ ((n : ℕ) × (o ≡ Some n))
has-or_free None = inl refl
has-or_free (Some n) = inr (n, refl)

module _ (kinds : List ℕ) where
  pub same-more : (partners owners : List (Option ℕ)) → ArePairs kinds partners owners → AreMore kinds partners owners partners owners
  same-more partners owners pairs = record { as_many = refl; as_many_owners = refl; pairs = pairs; kept = λ i j at. at }

  pub more-more : (ps os ps_ os_ qs rs : List (Option ℕ)) → AreMore kinds ps os ps_ os_ → AreMore kinds ps_ os_ qs rs
      → AreMore kinds ps os qs rs
  more-more ps os ps_ os_ qs rs one other = record {
    as_many = other.as_many ∙ one.as_many;
    as_many_owners = other.as_many_owners ∙ one.as_many_owners;
    pairs = other.pairs;
    kept = λ i j at. other.kept i j (one.kept i j at);
  }

  -- who is free now was free before
  pub free-before : (ps os qs rs : List (Option ℕ)) → AreMore kinds ps os qs rs → (i : ℕ) → IsFree qs i → IsFree ps i
  free-before ps os qs rs more i (low, none) = (
    omega (arith, low, more.as_many),
    elim (has-or_free (partner_at ps i)) [
      | inl free ↦ free
      | inr (j, at) ↦ absurd (none-some j (sym none ∙ more.kept i j at))
    ],
  )

  pub kept-owners : (ps os qs rs : List (Option ℕ)) → ArePairs kinds ps os → AreMore kinds ps os qs rs → (j i : ℕ)
      → partner_at os j ≡ Some i → partner_at rs j ≡ Some i
  kept-owners ps os qs rs pairs more j i at = more.pairs.there i j (more.kept i j (pairs.back j i at))

  pub free_owner-before : (ps os qs rs : List (Option ℕ)) → ArePairs kinds ps os → AreMore kinds ps os qs rs → (j : ℕ) → IsFree rs j
      → IsFree os j
  free_owner-before ps os qs rs pairs more j (low, none) = (
    omega (arith, low, more.as_many_owners),
    elim (has-or_free (partner_at os j)) [
      | inl free ↦ free
      | inr (i, at) ↦ absurd (none-some i (sym none ∙ kept-owners ps os qs rs pairs more j i at))
    ],
  )

  module _ (one other : ℕ) (ps os : List (Option ℕ)) (pairs : ArePairs kinds ps os) where
    -- nothing is joined, where one isn't free or they are of two kinds
    pub refused : ¬ ((partner_at ps one ≡ None) × (partner_at os other ≡ None) × (rank_at kinds one ≡ rank_at kinds (length ps + other)))
        → AreJoined kinds one other ps os ps os
    refused not_both = record {
      more = same-more ps os pairs;
      joined = λ free free_ alike. absurd (not_both (free, free_, alike));
      only = λ i j at. inl at;
    }

    module _ (low : one < length ps) (low_ : other < length os) (free : partner_at ps one ≡ None) (free_ : partner_at os other ≡ None)
        (alike : rank_at kinds one ≡ rank_at kinds (length ps + other)) where
      abbrev qs : List (Option ℕ)
      qs = slice_set ps one (Some other)

      abbrev rs : List (Option ℕ)
      rs = slice_set os other (Some one)

      at-one : partner_at qs one ≡ Some other
      at-one = get_or-set_same ps one (Some other) None low

      at-rest : (i : ℕ) → i ≢ one → partner_at qs i ≡ partner_at ps i
      at-rest i differ = get_or-set_other ps one i (Some other) None differ

      at-other : partner_at rs other ≡ Some one
      at-other = get_or-set_same os other (Some one) None low_

      at-rest_ : (j : ℕ) → j ≢ other → partner_at rs j ≡ partner_at os j
      at-rest_ j differ = get_or-set_other os other j (Some one) None differ

      only : (i j : ℕ) → partner_at qs i ≡ Some j → (partner_at ps i ≡ Some j) ⊎ ((i ≡ one) × (j ≡ other))
      only i j at = elim (cases_eq i one) [
        | inl same ↦ inr (same, same_Some j other (sym at ∙ ap (partner_at qs) same ∙ at-one))
        | inr differ ↦ inl (sym (at-rest i differ) ∙ at)
      ]

      only_ : (j i : ℕ) → partner_at rs j ≡ Some i → (partner_at os j ≡ Some i) ⊎ ((j ≡ other) × (i ≡ one))
      only_ j i at = elim (cases_eq j other) [
        | inl same ↦ inr (same, same_Some i one (sym at ∙ ap (partner_at rs) same ∙ at-other))
        | inr differ ↦ inl (sym (at-rest_ j differ) ∙ at)
      ]

      there : (i j : ℕ) → partner_at qs i ≡ Some j → partner_at rs j ≡ Some i
      there i j at = elim (only i j at) [
        | inl before ↦
            let owned : partner_at os j ≡ Some i = pairs.there i j before in
            at-rest_ j (λ same. none-some i (sym free_ ∙ ap (partner_at os) (sym same) ∙ owned)) ∙ owned
        | inr (same, same_) ↦ ap (partner_at rs) same_ ∙ at-other ∙ ap (λ (n : ℕ). Some n) (sym same)
      ]

      back : (j i : ℕ) → partner_at rs j ≡ Some i → partner_at qs i ≡ Some j
      back j i at = elim (only_ j i at) [
        | inl before ↦
            let paired : partner_at ps i ≡ Some j = pairs.back j i before in
            at-rest i (λ same. none-some j (sym free ∙ ap (partner_at ps) (sym same) ∙ paired)) ∙ paired
        | inr (same, same_) ↦ ap (partner_at qs) same_ ∙ at-one ∙ ap (λ (n : ℕ). Some n) (sym same)
      ]

      long : length qs ≡ length ps
      long = length-set ps one (Some other)

      one_kind : (i j : ℕ) → partner_at qs i ≡ Some j → rank_at kinds i ≡ rank_at kinds (length qs + j)
      one_kind i j at =
          let is : rank_at kinds i ≡ rank_at kinds (length ps + j) = elim (only i j at) [
            | inl before ↦ pairs.one_kind i j before
            | inr (same, same_) ↦ ap (rank_at kinds) same ∙ alike ∙ ap (λ n. rank_at kinds (length ps + n)) (sym same_)
          ] in
          is ∙ ap (λ n. rank_at kinds (n + j)) (sym long)

      -- the two are joined
      pub joined-is : AreJoined kinds one other ps os qs rs
      joined-is = record {
        more = record {
          as_many = long;
          as_many_owners = length-set os other (Some one);
          pairs = record { there = there; back = back; one_kind = one_kind };
          kept = λ i j at. at-rest i (λ same. none-some j (sym free ∙ ap (partner_at ps) (sym same) ∙ at)) ∙ at;
        };
        joined = λ free_one free_other alike_. at-one;
        only = only;
      }

-- ---- lists of one default

one-default : {X : Type 0} (d : X) (n : ℕ) → get_or (d ∷ []) n d ≡ d
one-default d zero = refl
one-default d (suc n) = refl

pub default-more : {X : Type 0} (d : X) (xs : List X) → ((n : ℕ) → get_or xs n d ≡ d) → (n : ℕ) → get_or (xs ++ d ∷ []) n d ≡ d
default-more d xs each n = elim (cases_below n (length xs)) [
  | inl low ↦ get_or_append_left xs (d ∷ []) d n low ∙ each n
  | inr past ↦ get_or-append_right xs (d ∷ []) (length xs) n d refl past ∙ one-default d (n - length xs)
]
