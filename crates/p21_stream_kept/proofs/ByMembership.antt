-- What is stored of instances, where their memberships have numbers.
use Rattle.std.proofs.Common.{◌≡◌, ◌<◌, ◌≤◌, ◌∙◌, ℕ, zero, suc, List, [], ◌∷◌, ◌++◌, length, slice_get, Option, Some, Result, Ok, Err, inl, inr, refl, ap, subst, sym, arith}
use Rattle.std.proofs.lemmas.List.Sorted.{Contains-permutation, IsPermutation-map, IsPermutation-sym}
use Rattle.std.specs.List.{AllByRecursion as Each}
use Rattle.std.specs.List.Sorted.{IsPermutation}
use Rattle.std.specs.Prelude.{Contains, OnErr, OnOk}
use Rattle.p21_spec_basics.proofs.Members.{Contains-mapped, Each-member, Each-of_members, Each-weaker}
use Rattle.p21_spec_laws.specs.Stored.{StoredEntry}
use Rattle.p21_stream_kept.specs.Inside.{AreNamed, AreOfSections, HaveMemberships, stored_of, stored_with}
use Rattle.p21_stream_output.specs.Output.{IsNamed}
use Rattle.p21_stream_store.specs.Memberships.{Membership}
use Rattle.p21_stream_store.specs.Numbering.{Interns}
use Rattle.p21_stream_store.specs.StoredInstance as store

-- a number that is given stays
get-earlier : (memberships more : List Membership) (k : ℕ) → k < length memberships
    → slice_get (memberships ++ more) k ≡ slice_get memberships k
get-earlier [] more k below = absurd (omega (arith, below))
get-earlier (membership ∷ memberships) more zero below = refl
get-earlier (membership ∷ memberships) more (suc k) below = get-earlier memberships more k (omega (arith, below))

pub stored-later : (memberships more : List Membership) (instances : List store.StoredInstance)
    → Each (λ (x : store.StoredInstance). x.membership < length memberships) instances
    → stored_of (memberships ++ more) instances ≡ stored_of memberships instances
stored-later memberships more [] each = refl
stored-later memberships more (x ∷ xs) each =
    ap (λ membership. stored_with membership x ∷ stored_of (memberships ++ more) xs) (get-earlier memberships more x.membership each.0)
    ∙ ap (λ (ys : List StoredEntry). stored_with (slice_get memberships x.membership) x ∷ ys) (stored-later memberships more xs each.1)

stored-interned : (old new : List Membership) (membership : Membership) (number : ℕ) → Interns old membership number new
    → (instances : List store.StoredInstance) → Each (λ (x : store.StoredInstance). x.membership < length old) instances
    → stored_of new instances ≡ stored_of old instances
stored-interned old new membership number interned instances each = elim interned.1 [
  | inl same ↦ ap (λ (memberships : List Membership). stored_of memberships instances) same
  | inr added ↦ ap (λ (memberships : List Membership). stored_of memberships instances) added.0
      ∙ stored-later old (membership ∷ []) instances each
]

-- one more instance, whose membership has a number
pub stored-more : (old new : List Membership) (membership : Membership) (number : ℕ) → Interns old membership number new
    → (instances all : List store.StoredInstance) → Each (λ (x : store.StoredInstance). x.membership < length old) instances
    → (name : ℕ) (text : List ℕ) → IsPermutation (record { name = name; membership = number; text = text } ∷ instances) all
    → IsPermutation (record { name = name; section = membership.section; entities = membership.entities; text = text } ∷ stored_of old
    instances) (stored_of new all)
stored-more old new membership number interned instances all each name text permuted =
    let x : store.StoredInstance = record { name = name; membership = number; text = text } in
    let front : stored_with (slice_get new number) x ≡ stored_with (Some membership) x = ap (λ k. stored_with k x) interned.0 in
    let whole = IsPermutation-map (λ (y : store.StoredInstance). stored_with (slice_get new y.membership) y) (x ∷ instances) all permuted in
    let P : StoredEntry → Type 0 = λ y. IsPermutation (y ∷ stored_of old instances) (stored_of new all) in
    let Q : List StoredEntry → Type 0 = λ ys. IsPermutation (stored_with (slice_get new number) x ∷ ys) (stored_of new all) in
    subst P front (subst Q (stored-interned old new membership number interned instances each) whole)

pub stored-pushed : {T F : Type 0} (old new : List Membership) (membership : Membership) (number : ℕ) → Interns old membership number new
    → (instances all : List store.StoredInstance) → HaveMemberships old instances → (name own : ℕ) → own ≡ name → (text : List ℕ)
    → (r : Result T F) → OnOk r (IsPermutation (record { name = own; membership = number; text = text } ∷ instances) all)
    → OnOk r (IsPermutation (record {
      name = name;
      section = membership.section;
      entities = membership.entities;
      text =
          text;
    } ∷ stored_of old instances) (stored_of new all))
stored-pushed old new membership number interned instances all each name own same text (Ok value) permuted =
    let P : ℕ → Type 0 = λ n. IsPermutation (record {
      name = n;
      section = membership.section;
      entities = membership.entities;
      text =
          text;
    } ∷ stored_of old instances) (stored_of new all) in
    subst P same (stored-more old new membership number interned instances all each own text permuted)
stored-pushed old new membership number interned instances all each name own same text (Err fault) permuted = tt

-- where lines begin with their names, they do so with one more
pub named-pushed : {T F : Type 0} (old new : List store.StoredInstance) (name own membership : ℕ) (text : List ℕ) (r : Result T F)
    → OnOk r (IsPermutation (record { name = own; membership = membership; text = text } ∷ old) new) → OnErr r (new ≡ old) → own ≡ name
    → AreNamed old → IsNamed name text → AreNamed new
named-pushed old new name own membership text (Ok value) permuted unchanged same are named =
    let x : store.StoredInstance = record { name = own; membership = membership; text = text } in
    let P : store.StoredInstance → Type 0 = λ y. IsNamed y.name y.text in
    let its : IsNamed own text = subst (λ (n : ℕ). IsNamed n text) (sym same) named in
    Each-of_members P new (λ y among. Each-member P (x ∷ old) y (its, are)
    (Contains-permutation new (x ∷ old) y (IsPermutation-sym (x ∷ old) new permuted) among))
named-pushed old new name own membership text (Err fault) permuted unchanged same are named = subst AreNamed (sym unchanged) are

-- ---- what is found of it

-- an instance with its membership
pub stored-found : (memberships : List Membership) (instances : List store.StoredInstance) (x : store.StoredInstance)
    (membership : Membership) → Contains instances x → slice_get memberships x.membership ≡ Some membership
    → Contains (stored_of memberships instances) (stored_with (Some membership) x)
stored-found memberships instances x membership among is =
    let P : Option Membership → Type 0 = λ k. Contains (stored_of memberships instances) (stored_with k x) in
    subst P is (Contains-mapped (λ (y : store.StoredInstance). stored_with (slice_get memberships y.membership) y) instances x among)

-- ---- sections

-- what is of so many sections is of more
pub sections_wider : (few many : ℕ) (memberships : List Membership) → few ≤ many → AreOfSections few memberships
    → AreOfSections many memberships
sections_wider few many memberships more are = Each-weaker (λ (x : Membership). x.section < few) (λ (x : Membership). x.section < many)
    (λ x below. omega (arith, below, more)) memberships are
