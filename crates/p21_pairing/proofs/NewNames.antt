-- Names by partners, one after the other.
use Rattle.std.specs.BTreeMap.{BTreeMap, is_at}
use Rattle.std.specs.BTreeSet.{BTreeSet, Updates, contains}
use Rattle.std.specs.Ordering.{nat_cmp}
use Rattle.std.specs.Prelude.{◌≡◌, ◌⊎◌, ◌<◌, ◌≤◌, ◌+◌, ℕ, Bool, true, false, cond, List, [], ◌∷◌, ◌++◌, Option, Some, None, length, Contains, refl}
use Rattle.std.proofs.Common.{arith, ap, sym, subst, ◌∙◌, get_or, inl, inr}
use Rattle.std.proofs.lemmas.List.{get_or-map, get_or_append_left, get_or_push, length-append, length-map}
use Rattle.p21_spec_basics.proofs.Members.{Contains-at}
use Rattle.p21_spec_basics.proofs.Shuffles.{NoneTwice}
use Rattle.p21_numbering.proofs.Decisions.{got}
use Rattle.p21_numbering.specs.declared.instances.Instance.{Instance as Code}
use Rattle.p21_numbering.specs.Instances.{Instance, file_instance, file_instances, instance_at, names_of, no_instance}
use Rattle.p21_numbering.specs.NewNames.{NamesGet, new_name}
use Rattle.p21_pairing.proofs.MorePairs.{has-or_free}
use Rattle.p21_pairing.specs.Names.{AreNewNames, GivesName, HasNames, name_at}
use Rattle.p21_pairing.specs.Pairs.{partner_at}
use Rattle.p21_pairing.specs.Partners.{AreNamesBy}

split_last : (m n : ℕ) → m < n + 1 → (m < n) ⊎ (m ≡ n)
split_last m n low = grind arith

-- the name of the instance at a position
pub name-here : (all : List Code) (k : ℕ) (d : Code) → k < length all → name_at (names_of (file_instances all)) k ≡ (get_or all k d).name
name-here all k d low =
    get_or-map (λ (i : Instance). i.name) (file_instances all) k no_instance 0 (omega (arith, low, length-map all file_instance))
    ∙ ap (λ (i : Instance). i.name) (get_or-map file_instance all k d no_instance low)

-- ---- names that are taken

-- the set has the names at the first positions
abbrev pub HasBelow : BTreeSet ℕ → List ℕ → ℕ → Type 0
HasBelow taken names k = (j : ℕ) → j < k → contains nat_cmp taken (name_at names j) ≡ true

kept-true : (b c : Bool) → c ≡ true → cond b true c ≡ true
kept-true true c is = refl
kept-true false c is = is

pub has-more : (before after : BTreeSet ℕ) (names : List ℕ) (k : ℕ) → Updates nat_cmp before after (name_at names k) true
    → HasBelow before names k → HasBelow after names (k + 1)
has-more before after names k updates so_far j low = elim (split_last j k low) [
  | inl below ↦ updates.0 (name_at names j) ∙ kept-true (is_at (nat_cmp (name_at names k)) (name_at names j))
      (contains nat_cmp before (name_at names j)) (so_far j below)
  | inr same ↦ ap (λ i. contains nat_cmp after (name_at names i)) same ∙ updates.1
]

pub has-all : (taken : BTreeSet ℕ) (names : List ℕ) (k : ℕ) → length names < k + 1 → HasBelow taken names k → HasNames taken names
has-all taken names k long below n among =
    let (j, at) = Contains-at names n among in
    let (low, same) = got names j n 0 at in
    ap (contains nat_cmp taken) (sym same) ∙ below j (omega (arith, low, long))

-- ---- new names

-- names of the first instances; those that no partner gives are below the next one
pub record AreNamedTo (partners : List (Option ℕ)) (second : List Instance) (news : List ℕ) (next : ℕ) : Type 0 where
  pub names : AreNewNames partners second news
  pub below : (i : ℕ) → i < length news → partner_at partners i ≡ None → name_at news i < next

pub none-named : (partners : List (Option ℕ)) (second : List Instance) (news : List ℕ) (next : ℕ) → news ≡ []
    → AreNamedTo partners second news next
none-named partners second news next none = record {
  names = record {
    with_partner = λ i j low at. (absurd (past i low));
    without = λ i low free among. past i low;
    apart = λ i k low low_ free free_ same. (absurd (past i low));
  };
  below = λ i low free. (absurd (past i low));
}
  where
    past : (i : ℕ) → i < length news → ⊥
    past i low = let size = ap (λ (xs : List ℕ). length xs) none in omega (arith, low, size)

module _ (partners : List (Option ℕ)) (second : List Instance) (news more : List ℕ) (k before after name : ℕ) (size : length news ≡ k)
    (gives : GivesName second (partner_at partners k) before after name)
    (pushed : more ≡ news ++ name ∷ []) (so_far : AreNamedTo partners second news before) where
  early : (i : ℕ) → i < length news → name_at more i ≡ name_at news i
  early i low = ap (λ (xs : List ℕ). name_at xs i) pushed ∙ get_or_append_left news (name ∷ []) 0 i low

  last : name_at more k ≡ name
  last = ap (λ (xs : List ℕ). name_at xs k) pushed ∙ get_or_push news name 0 k size

  place : (i : ℕ) → i < length more → (i < length news) ⊎ (i ≡ k)
  place i low =
      let long = ap (λ (xs : List ℕ). length xs) pushed ∙ length-append news (name ∷ []) in
      elim (split_last i (length news) (omega (arith, low, long))) [
        | inl below ↦ inl below
        | inr same ↦ inr (same ∙ size)
      ]

  by-partner : (j : ℕ) → partner_at partners k ≡ Some j → (name ≡ (instance_at second j).name) × (after ≡ before)
  by-partner j at = let G : Option ℕ → Type 0 = λ o. GivesName second o before after name in subst G at gives

  by-none : partner_at partners k ≡ None → ¬ Contains (names_of second) name × (before ≤ name) × (name < after)
  by-none free = let G : Option ℕ → Type 0 = λ o. GivesName second o before after name in subst G free gives

  rises : before ≤ after
  rises = elim (has-or_free (partner_at partners k)) [
    | inl free ↦ (let own = by-none free in omega (arith, own.1, own.2))
    | inr (j, at) ↦ (let own = by-partner j at in omega (arith, own.1))
  ]

  at-last : (i : ℕ) → i ≡ k → name_at more i ≡ name
  at-last i same = ap (name_at more) same ∙ last

  free-last : (i : ℕ) → i ≡ k → partner_at partners i ≡ None → ¬ Contains (names_of second) name × (before ≤ name) × (name < after)
  free-last i same free = by-none (ap (partner_at partners) (sym same) ∙ free)

  apart-more : (i j : ℕ) → i < length more → j < length more → partner_at partners i ≡ None → partner_at partners j ≡ None
      → name_at more i ≡ name_at more j → i ≡ j
  apart-more i j low low_ free free_ one = by (place i low) (place j low_)
    where
      by : ((i < length news) ⊎ (i ≡ k)) → ((j < length news) ⊎ (j ≡ k)) → i ≡ j
      by (inl below) (inl below_) = so_far.names.apart i j below below_ free free_ (sym (early i below) ∙ one ∙ early j below_)
      by (inl below) (inr same) =
          let own = so_far.below i below free in
          let other = free-last j same free_ in
          let is = early i below in
          let is_ = at-last j same in
          absurd (omega (arith, own, other.1, is, is_, one))
      by (inr same) (inl below) =
          let own = so_far.below j below free_ in
          let other = free-last i same free in
          let is = early j below in
          let is_ = at-last i same in
          absurd (omega (arith, own, other.1, is, is_, one))
      by (inr same) (inr same_) = same ∙ sym same_

  pub named-more : AreNamedTo partners second more after
  named-more = record {
    names = record {
      with_partner = λ i j low at. elim (place i low) [
        | inl below ↦ early i below ∙ so_far.names.with_partner i j below at
        | inr same ↦ at-last i same ∙ (by-partner j (ap (partner_at partners) (sym same) ∙ at)).0
      ];
      without = λ i low free among.
          let C : ℕ → Type 0 = λ n. Contains (names_of second) n in
          elim (place i low) [
            | inl below ↦ so_far.names.without i below free (subst C (early i below) among)
            | inr same ↦ (free-last i same free).0 (subst C (at-last i same) among)
          ];
      apart = apart-more;
    };
    below = λ i low free. elim (place i low) [
      | inl below ↦ (let old = so_far.below i below free in let is = early i below in omega (arith, old, is, rises))
      | inr same ↦ (let own = free-last i same free in let is = at-last i same in omega (arith, own.2, is))
    ];
  }

-- ---- the map

pub names-by : (partners : List (Option ℕ)) (first second : List Instance) (news : List ℕ) (found : BTreeMap ℕ ℕ)
    → length news ≡ length first → NamesGet found (names_of first) news → AreNewNames partners second news
    → NoneTwice (names_of first) → AreNamesBy partners first second (new_name found)
names-by partners first second news found size gets names once = record {
  with_partner = λ i j low at. (named i low ∙ names.with_partner i j (within i low) at);
  without = λ i low free among. (let C : ℕ → Type 0 = λ n. Contains (names_of second) n in
      names.without i (within i low) free (subst C (named i low) among));
  apart = λ i k low low_ free free_ same. (names.apart i k (within i low) (within k low_) free free_
      (sym (named i low) ∙ same ∙ named k low_));
}
  where
    within : (i : ℕ) → i < length first → i < length news
    within i low = omega (arith, low, size)

    named : (i : ℕ) → i < length first → new_name found (instance_at first i).name ≡ name_at news i
    named i low =
        let long = length-map first (λ (x : Instance). x.name) in
        ap (new_name found) (sym (get_or-map (λ (x : Instance). x.name) first i no_instance 0 low)) ∙ gets once i (omega (arith, low, long))
