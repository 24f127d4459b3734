-- What holds a key among some instances and one more, and pairs of those that hold keys alone.
use Rattle.std.specs.Prelude.{◌≡◌, ◌⊎◌, ◌<◌, ◌+◌, ℕ, List, Option, Some, None, length, slice_set, refl}
use Rattle.std.proofs.Common.{arith, ap, sym, subst, ◌∙◌, inl, inr}
use Rattle.std.proofs.lemmas.Bool.{cases_eq}
use Rattle.std.proofs.lemmas.List.{get_or-set_same, get_or-set_other}
use Rattle.std.proofs.lemmas.Option.{none-some}
use Rattle.p21_numbering.specs.Arrays.{rank_at}
use Rattle.p21_pairing.specs.declared.alone.Holder.{Holder}
use Rattle.p21_pairing.specs.declared.alone.Holder.TheVariants.{Nobody, One, Several}
use Rattle.p21_pairing.specs.Holders.{AreHolders, HasKey, Hold, Holds, holder_at, more_held}
use Rattle.p21_pairing.specs.Pairs.{AreMore, ArePairs, IsAloneIn, IsFree, partner_at}
use Rattle.p21_pairing.proofs.MorePairs.{has-or_free, more-more}

split_last : (m n : ℕ) → m < n + 1 → (m < n) ⊎ (m ≡ n)
split_last m n low = grind arith

module _ (keys : List ℕ) (start : ℕ) (partners : List (Option ℕ)) where
  has-more : (count key n : ℕ) → HasKey keys start partners count key n → HasKey keys start partners (count + 1) key n
  has-more count key n has = record { below = omega (arith, has.below); free = has.free; key_is = has.key_is }

  has-cases : (count key n : ℕ) → HasKey keys start partners (count + 1) key n → HasKey keys start partners count key n ⊎ (n ≡ count)
  has-cases count key n has = elim (split_last n count has.below) [
    | inl below ↦ inl (record { below = below; free = has.free; key_is = has.key_is })
    | inr same ↦ inr same
  ]

  -- one that doesn't have the key leaves what holds it
  other-holds : (count key : ℕ) (h : Holder) → ¬ HasKey keys start partners (count + 1) key count → Holds keys start partners count key h
      → Holds keys start partners (count + 1) key h
  other-holds count key Nobody lacks holds = λ n has. elim (has-cases count key n has) [
    | inl before ↦ holds n before
    | inr same ↦ lacks (let P : ℕ → Type 0 = λ k. HasKey keys start partners (count + 1) key k in subst P same has)
  ]
  other-holds count key (One n) lacks (own, alone) = (
    has-more count key n own,
    λ k has. elim (has-cases count key k has) [
      | inl before ↦ alone k before
      | inr same ↦ absurd (lacks (let P : ℕ → Type 0 = λ i. HasKey keys start partners (count + 1) key i in subst P same has))
    ],
  )
  other-holds count key Several lacks (m, n, differ, own, own_) = (m, n, differ, has-more count key m own, has-more count key n own_)

  -- and one that does is counted
  own-holds : (count key : ℕ) (h : Holder) → HasKey keys start partners (count + 1) key count → Holds keys start partners count key h
      → Holds keys start partners (count + 1) key (more_held h count)
  own-holds count key Nobody has holds = (
    has,
    λ k own. elim (has-cases count key k own) [
      | inl before ↦ absurd (holds k before)
      | inr same ↦ same
    ],
  )
  own-holds count key (One n) has (own, alone) = (
    n,
    count,
    (λ same. (let below = own.below in omega (arith, below, same))),
    has-more count
        key n own,
    has,
  )
  own-holds count key Several has (m, n, differ, own, own_) = (m, n, differ, has-more count key m own, has-more count key n own_)

  pub nothing-held : (holders : List Holder) → ((key : ℕ) → key < length keys → holder_at holders key ≡ Nobody)
      → AreHolders keys start partners 0 holders
  nothing-held holders none key low =
      let P : Holder → Type 0 = λ h. Holds keys start partners 0 key h in
      subst P (sym (none key low)) (λ n has. (let below = has.below in omega (arith, below)))

  -- one with a partner is passed
  pub passed-held : (count : ℕ) (holders : List Holder) → ¬ IsFree partners count → AreHolders keys start partners count holders
      → AreHolders keys start partners (count + 1) holders
  passed-held count holders taken are key low = other-holds count key (holder_at holders key) (λ has. taken has.free) (are key low)

  pub more-holders : (count : ℕ) (holders : List Holder) → length holders ≡ length keys → IsFree partners count
      → rank_at keys (start + count) < length keys
      → AreHolders keys start partners count holders
      → AreHolders keys start partners (count + 1) (slice_set holders (rank_at keys (start + count))
      (more_held (holder_at holders (rank_at keys (start + count))) count))
  more-holders count holders long free small are key low = elim (cases_eq key own) [
    | inl same ↦ (
        let P : ℕ → Type 0 = λ k. Holds keys start partners (count + 1) k (holder_at all k) in
        let Q : Holder → Type 0 = λ h. Holds keys start partners (count + 1) own h in
        subst P (sym same) (subst Q (sym (get_or-set_same holders own (more_held (holder_at holders own) count) Nobody
        (omega (arith, small, long))))
        (own-holds count own (holder_at holders own) (record { below = omega arith; free = free; key_is = refl }) (are own small))))
    | inr differ ↦ (
        let Q : Holder → Type 0 = λ h. Holds keys start partners (count + 1) key h in
        subst Q (sym (get_or-set_other holders own key (more_held (holder_at holders own) count) Nobody differ))
        (other-holds count key (holder_at holders key) (λ has. differ (sym has.key_is)) (are key low)))
  ]
    where
      own : ℕ
      own = rank_at keys (start + count)

      all : List Holder
      all = slice_set holders own (more_held (holder_at holders own) count)

  -- who is alone in its file holds its key
  pub alone-holds : (holders : List Holder) → AreHolders keys start partners (length partners) holders → (n : ℕ)
      → IsAloneIn keys start partners n
      → rank_at keys (start + n) < length keys → holder_at holders (rank_at keys (start + n)) ≡ One n
  alone-holds holders are n alone low = by (holder_at holders key) refl (are key low)
    where
      key : ℕ
      key = rank_at keys (start + n)

      own : HasKey keys start partners (length partners) key n
      own = record { below = alone.free.0; free = alone.free; key_is = refl }

      by : (h : Holder) → holder_at holders key ≡ h → Holds keys start partners (length partners) key h → holder_at holders key ≡ One n
      by Nobody e none = absurd (none n own)
      by (One k) e (has, only) = e ∙ ap One (sym (only n own))
      by Several e (k, m, differ, has, has_) = absurd (differ
          (alone.alone k has.free has.key_is ∙ sym (alone.alone m has_.free has_.key_is)))

-- ---- pairs of those that hold one key alone in both files

abbrev pub HoldIn : List Holder → List Holder → ℕ → ℕ → ℕ → Type 0
HoldIn firsts seconds key i j = Hold (holder_at firsts key) (holder_at seconds key) i j

-- those that hold keys below this one have become partners, and no others have
pub record AreSoFar (kinds : List ℕ) (ps os : List (Option ℕ)) (firsts seconds : List Holder) (below : ℕ) (qs rs : List (Option ℕ)) : Type
    0 where
  pub more : AreMore kinds ps os qs rs
  pub done : (key i j : ℕ) → key < below → HoldIn firsts seconds key i j → rank_at kinds i ≡ rank_at kinds (length ps + j)
      → partner_at qs i ≡ Some j
  pub only : (i j : ℕ) → partner_at qs i ≡ Some j → (partner_at ps i ≡ Some j) ⊎ ((key : ℕ) × (key < below) × HoldIn firsts seconds key i j)

module _ (keys kinds : List ℕ) (ps os : List (Option ℕ)) (pairs : ArePairs kinds ps os) (firsts seconds : List Holder)
    (are : AreHolders keys 0 ps (length ps) firsts) (are_ : AreHolders keys (length ps) os (length os) seconds) where
  abbrev HoldAt : ℕ → ℕ → ℕ → Type 0
  HoldAt key i j = HoldIn firsts seconds key i j

  abbrev AreSoFarHere : ℕ → List (Option ℕ) → List (Option ℕ) → Type 0
  AreSoFarHere below qs rs = AreSoFar kinds ps os firsts seconds below qs rs

  held-first : (key i j : ℕ) → key < length keys → HoldAt key i j → HasKey keys 0 ps (length ps) key i
  held-first key i j low (one, other) = let P : Holder → Type 0 = λ h. Holds keys 0 ps (length ps) key h in (subst P one (are key low)).0

  held-second : (key i j : ℕ) → key < length keys → HoldAt key i j → HasKey keys (length ps) os (length os) key j
  held-second key i j low (one, other) = let P : Holder
      → Type 0 = λ h. Holds keys (length ps) os (length os) key h in (subst P other (are_ key low)).0

  pub held-within : (key i j : ℕ) → key < length keys → HoldAt key i j → (i < length ps) × (j < length os)
  held-within key i j low hold = ((held-first key i j low hold).below, (held-second key i j low hold).below)

  -- they are free when their key's turn comes
  pub still-free : (key : ℕ) (qs rs : List (Option ℕ)) → key < length keys → AreSoFarHere key qs rs → (i j : ℕ) → HoldAt key i j
      → (partner_at qs i ≡ None) × (partner_at rs j ≡ None)
  still-free key qs rs low so_far i j hold = (first, second)
    where
      own : HasKey keys 0 ps (length ps) key i
      own = held-first key i j low hold

      own_ : HasKey keys (length ps) os (length os) key j
      own_ = held-second key i j low hold

      first : partner_at qs i ≡ None
      first = elim (has-or_free (partner_at qs i)) [
        | inl free ↦ free
        | inr (k, at) ↦ elim (so_far.only i k at) [
          | inl before ↦ absurd (none-some k (sym own.free.1 ∙ before))
          | inr (key_, below, hold_) ↦ (let same : key_ ≡ key = sym (held-first key_ i k (omega (arith, below, low)) hold_).key_is
              ∙ own.key_is in absurd (omega (arith, below, same)))
        ]
      ]

      second : partner_at rs j ≡ None
      second = elim (has-or_free (partner_at rs j)) [
        | inl free ↦ free
        | inr (k, at) ↦ elim (so_far.only k j (so_far.more.pairs.back j k at)) [
          | inl before ↦ absurd (none-some k (sym own_.free.1 ∙ pairs.there k j before))
          | inr (key_, below, hold_) ↦ (let same : key_ ≡ key = sym (held-second key_ k j (omega (arith, below, low)) hold_).key_is
              ∙ own_.key_is in absurd (omega (arith, below, same)))
        ]
      ]

  pub none-so_far : AreSoFarHere 0 ps os
  none-so_far = record {
    more = record { as_many = refl; as_many_owners = refl; pairs = pairs; kept = λ i j at. at };
    done = λ key i j below. absurd (omega (arith, below));
    only = λ i j at. inl at;
  }

  -- one key more
  pub key-more : (key : ℕ) (qs rs more_qs more_rs : List (Option ℕ)) → key < length keys → AreSoFarHere key qs rs
      → AreMore kinds qs rs more_qs more_rs
      → ((i j : ℕ) → HoldAt key i j → partner_at qs i ≡ None → partner_at rs j ≡ None → rank_at kinds i ≡ rank_at kinds (length qs + j)
      → partner_at more_qs i ≡ Some j)
      → ((i j : ℕ) → partner_at more_qs i ≡ Some j → (partner_at qs i ≡ Some j) ⊎ HoldAt key i j)
      → AreSoFarHere (key + 1) more_qs more_rs
  key-more key qs rs more_qs more_rs low so_far more joined only = record {
    more = more-more kinds ps os qs rs more_qs more_rs so_far.more more;
    done = λ key_ i j below hold alike. elim (split_last key_ key below) [
      | inl before ↦ more.kept i j (so_far.done key_ i j before hold alike)
      | inr same ↦ (
          let P : ℕ → Type 0 = λ k. HoldAt k i j in
          let own : HoldAt key i j = subst P same hold in
          let free = still-free key qs rs low so_far i j own in
          joined i j own free.0 free.1 (alike ∙ ap (λ n. rank_at kinds (n + j)) (sym so_far.more.as_many)))
    ];
    only = λ i j at. elim (only i j at) [
      | inl before ↦ elim (so_far.only i j before) [
        | inl old ↦ inl old
        | inr (key_, below, hold) ↦ inr (key_, omega (arith, below), hold)
      ]
      | inr hold ↦ inr (key, omega arith, hold)
    ];
  }

  -- who is alone in both files with one key has become a partner of the other
  pub alone-paired : (qs rs : List (Option ℕ)) → AreSoFarHere (length keys) qs rs
      → ((k : ℕ) → k < length keys → rank_at keys k < length keys) → length keys ≡ length ps + length os
      → (i j : ℕ) → IsAloneIn keys 0 ps i → IsAloneIn keys (length ps) os j → rank_at keys i ≡ rank_at keys (length ps + j)
      → rank_at kinds i ≡ rank_at kinds (length ps + j) → partner_at qs i ≡ Some j
  alone-paired qs rs so_far within long i j alone alone_ one_key one_kind =
      let low = alone.free.0 in
      let low_ = alone_.free.0 in
      let small : rank_at keys (0 + i) < length keys = within (0 + i) (omega (arith, low, long)) in
      let small_ : rank_at keys (length ps + j) < length keys = within (length ps + j) (omega (arith, low_, long)) in
      let zero_add : 0 + i ≡ i = omega arith in
      let same : rank_at keys (0 + i) ≡ rank_at keys (length ps + j) = ap (rank_at keys) zero_add ∙ one_key in
      let first : holder_at firsts (rank_at keys (length ps + j)) ≡ One i = ap (holder_at firsts) (sym same)
      ∙ alone-holds keys 0 ps firsts are i alone small in
      let second : holder_at seconds (rank_at keys (length ps + j)) ≡ One j =
      alone-holds keys (length ps) os seconds are_ j alone_ small_ in
      so_far.done (rank_at keys (length ps + j)) i j small_ (first, second) one_kind

-- ---- holders by cases

pub same-one : (i j : ℕ) → One i ≡ One j → i ≡ j
same-one i j same = cc
