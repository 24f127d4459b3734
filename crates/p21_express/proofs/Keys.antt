-- Places that are added to keys, each once.
use Rattle.std.specs.Prelude.{◌≡◌, ℕ, suc, ◌+◌, ◌<◌, ◌≤◌, Bool, true, false, ◌&&◌, ◌||◌, not, if◌then◌else◌, nat_eq, List, [], ◌∷◌, ◌++◌, map, length, take, drop, refl}
use Rattle.std.specs.List.{IsDistinct, list_any}
use Rattle.std.proofs.Common.{arith, ap, sym, ◌∙◌, subst, get_or}
use Rattle.std.proofs.lemmas.Bool.{eq-eqb, eqb-true, and_parts, not-false}
use Rattle.std.proofs.lemmas.List.{map-append, take-append-drop}
use Rattle.p21_spec_basics.proofs.Members.{Each-back, Each-mapped, Each-unmapped}
use Rattle.p21_spec_schema.specs.DeclaredEntity.{same_place}
use Rattle.p21_express_outline.proofs.Adding.{drop-next}
use Rattle.p21_express_outline.proofs.Finding.{take-all}
use Rattle.p21_express_graph.proofs.Lookups.{take-snoc}
use Rattle.p21_express_graph.specs.Meaning.{place as place_of}
use Rattle.p21_express_graph.specs.declared.number.Place.{Place}

-- a place as a key
abbrev pub key : Place → ℕ × ℕ
key p = (p.entity.0, p.index)

abbrev pub same_key : ℕ × ℕ → ℕ × ℕ → Bool
same_key a b = nat_eq a.0 b.0 && nat_eq a.1 b.1

-- keys that are the same are those of one place, in either order
key-same : (p q : Place) → same_key (key p) (key q) ≡ true → same_place (place_of q) (place_of p) ≡ true
key-same p q is =
    let (entity, index) = and_parts (nat_eq p.entity.0 q.entity.0) (nat_eq p.index q.index) is in
    ap (λ b. b && nat_eq q.index p.index) (eq-eqb q.entity.0 p.entity.0 (sym (eqb-true p.entity.0 q.entity.0 entity)))
    ∙ eq-eqb q.index p.index (sym (eqb-true p.index q.index index))

-- keys that differ are those of places that differ
pub distinct-keys : (ps : List Place) → IsDistinct same_key (map key ps) → IsDistinct same_place (map place_of ps)
unfolding IsDistinct
distinct-keys [] distinct = tt
distinct-keys (p ∷ ps) distinct = (
  Each-mapped (λ q. same_place (place_of p) q ≡ false) place_of ps (Each-unmapped (λ q. same_key (key p) q ≡ false) key ps distinct.0),
  distinct-keys ps distinct.1,
)

-- a place whose key is there is there twice
pub twice : (ps rest : List Place) (p : Place) → list_any (same_key (key p)) (map key ps) ≡ true
    → IsDistinct same_place (map place_of (ps ++ p ∷ rest)) → ⊥
unfolding IsDistinct
twice [] rest p some distinct = cc
twice (q ∷ ps) rest p some distinct = cases (twice ps rest p) (same_key (key p) (key q)) refl some
  where
    cases : (list_any (same_key (key p)) (map key ps) ≡ true → IsDistinct same_place (map place_of (ps ++ p ∷ rest)) → ⊥) → (b : Bool)
        → same_key (key p) (key q) ≡ b → (b || list_any (same_key (key p)) (map key ps)) ≡ true → ⊥
    cases behind true is more =
        let differ = (Each-back (λ r. same_place (place_of q) (place_of r) ≡ false) ps (p ∷ rest)
        (Each-unmapped (λ r. same_place (place_of q) r ≡ false) place_of (ps ++ p ∷ rest) distinct.0)).0 in
        let none : true ≡ false = sym (key-same p q is) ∙ differ in cc
    cases behind false is more = behind more distinct.1

abbrev pub no_place : Place
no_place = record { entity = record { 0 = 0 }; index = 0 }

pub twice-at : (places : List Place) (k : ℕ) → k < length places
    → list_any (same_key (key (get_or places k no_place))) (map key (take k places)) ≡ true → IsDistinct same_place (map place_of places)
    → ⊥
twice-at places k below some distinct =
    let P : List Place → Type 0 = λ ps. IsDistinct same_place (map place_of ps) in
    let split : places ≡ take k places ++ get_or places k no_place ∷ drop (k + 1) places = sym (take-append-drop k places)
    ∙ ap (λ ps. take k places ++ ps) (drop-next places k no_place below) in
    twice (take k places) (drop (k + 1) places) (get_or places k no_place) some (subst P split distinct)

-- one key more
pub keys-more : (places : List Place) (k : ℕ) (keys after : List (ℕ × ℕ)) → k < length places → keys ≡ map key (take k places)
    → after ≡ keys ++ key (get_or places k no_place) ∷ [] → after ≡ map key (take (k + 1) places)
keys-more places k keys after below keys_are after_is =
    let next : k + 1 ≡ suc k = omega arith in
    after_is ∙ ap (λ ks. ks ++ key (get_or places k no_place) ∷ []) keys_are
    ∙ sym (map-append key (take k places) (get_or places k no_place ∷ []))
    ∙ ap (map key) (sym (ap (λ n. take n places) next ∙ take-snoc places k no_place below))

-- a key that isn't there stands last
pub added : (b : Bool) (keys after : List (ℕ × ℕ)) (k : ℕ × ℕ) → not b ≡ true → after ≡ (if b then keys else keys ++ k ∷ [])
    → after ≡ keys ++ k ∷ []
added true keys after k is after_is = cc
added false keys after k is after_is = after_is

-- the keys are those of the places, each once
pub record AreSeen (places : List Place) (keys : List (ℕ × ℕ)) : Type 0 where
  pub keys_are : keys ≡ map key places
  pub unique : IsDistinct same_key keys

pub seen-none : (keys : List (ℕ × ℕ)) → keys ≡ [] → IsDistinct same_key keys → AreSeen [] keys
seen-none keys none unique = record { keys_are = none; unique = unique }

pub seen-more : (places : List Place) (k : ℕ) (keys after : List (ℕ × ℕ)) (new : Bool) → k < length places → AreSeen (take k places) keys
    → new ≡ not (list_any (same_key (key (get_or places k no_place))) keys) → new ≡ true
    → after ≡ (if list_any (same_key (key (get_or places k no_place))) keys then keys else keys ++ key (get_or places k no_place) ∷ [])
    → IsDistinct same_key after → AreSeen (take (k + 1) places) after
seen-more places k keys after new below seen new_is is after_is unique = record {
  keys_are = keys-more places k keys after below seen.keys_are
      (added (list_any (same_key (key (get_or places k no_place))) keys) keys after (key (get_or places k no_place)) (sym new_is ∙ is)
      after_is);
  unique = unique;
}

pub seen-twice : (places : List Place) (k : ℕ) (keys : List (ℕ × ℕ)) (new : Bool) → k < length places → AreSeen (take k places) keys
    → new ≡ not (list_any (same_key (key (get_or places k no_place))) keys) → new ≡ false → IsDistinct same_place (map place_of places) → ⊥
seen-twice places k keys new below seen new_is is =
    let P : List (ℕ × ℕ) → Type 0 = λ ks. list_any (same_key (key (get_or places k no_place))) ks ≡ true in
    twice-at places k below (subst P seen.keys_are (not-false (list_any (same_key (key (get_or places k no_place))) keys)
    (sym new_is ∙ is)))

pub seen-all : (places : List Place) (k : ℕ) (keys : List (ℕ × ℕ)) → length places ≤ k → AreSeen (take k places) keys
    → IsDistinct same_place (map place_of places)
seen-all places k keys all seen = distinct-keys places
    (subst (IsDistinct same_key) (seen.keys_are ∙ ap (map key) (take-all places k all)) seen.unique)
