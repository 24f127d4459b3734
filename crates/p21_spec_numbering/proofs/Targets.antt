-- What is referred to has a use, so what means the same refers to the same; and a name has one meaning and one section.
use Rattle.std.specs.Prelude.{◌≡◌, ℕ, ◌+◌, List, [], ◌∷◌, ◌++◌, map, Contains, refl}
use Rattle.std.specs.List.{flat_map}
use Rattle.std.proofs.Common.{ap, subst, inl, inr}
use Rattle.std.proofs.lemmas.List.Elements.{Contains-append_left, Contains-append_right, Contains-append_cases}
use Rattle.p21_spec_basics.proofs.Members.{Contains-none, Contains-first, Contains-cases, Contains-mapped}
use Rattle.p21_spec_basics.proofs.Shuffles.{AreMembers, one-keyed}
use Rattle.p21_spec_file.specs.File.{FileMeaning}
use Rattle.p21_spec_file.specs.Meaning.{Typed}
use Rattle.p21_spec_file.specs.SameFile.{SameTyped}
use Rattle.p21_spec_file.specs.Value.{Value, whole, real, number, text, bits, item, reference, derived, missing, list, array, set, bag, typed, Values, no_values, value}
use Rattle.p21_spec_numbering.proofs.Moved.{names-none_twice, rows_uses-target}
use Rattle.p21_spec_numbering.proofs.Uses.{typed_uses-same}
use Rattle.p21_spec_numbering.specs.Renamed.{targets, targets_in, IsWhole}
use Rattle.p21_spec_numbering.specs.Uses.{Use, within, value_uses, uses_from, uses_among, rows_uses}

-- ---- targets have uses

abbrev pub HasUse : List Use → ℕ → Type 0
HasUse us t = (p : List ℕ) × Contains us (p, t)

within-use : (k : ℕ) (us : List Use) (t : ℕ) → HasUse us t → HasUse (map (within k) us) t
within-use k us t (p, at) = (k ∷ p, Contains-mapped (within k) us (p, t) at)

joined-use : (us vs : List Use) (ts rs : List ℕ) (t : ℕ) → (Contains ts t → HasUse us t) → (Contains rs t → HasUse vs t)
    → Contains (ts ++ rs) t → HasUse (us ++ vs) t
joined-use us vs ts rs t to to_ among = elim (Contains-append_cases ts rs t among) [
  | inl h ↦ let (p, at) = to h in (p, Contains-append_left us vs (p, t) at)
  | inr h ↦ let (p, at) = to_ h in (p, Contains-append_right us vs (p, t) at)
]

mutual
  target-use : (v : Value) (t : ℕ) → Contains (targets v) t → HasUse (value_uses v) t
  target-use (whole z) t among = absurd (Contains-none t among)
  target-use (real d) t among = absurd (Contains-none t among)
  target-use (number d) t among = absurd (Contains-none t among)
  target-use (text chars) t among = absurd (Contains-none t among)
  target-use (bits bs) t among = absurd (Contains-none t among)
  target-use (item word) t among = absurd (Contains-none t among)
  target-use (reference n) t among = elim (Contains-cases n [] t among) [
    | inl h ↦ let P : ℕ → Type 0 = λ k. HasUse (([], n) ∷ []) k in subst P h ([], Contains-first ([], n) [])
    | inr h ↦ absurd (Contains-none t h)
  ]
  target-use derived t among = absurd (Contains-none t among)
  target-use missing t among = absurd (Contains-none t among)
  target-use (list vs) t among = from-use 1 vs t among
  target-use (array vs) t among = from-use 1 vs t among
  target-use (set vs) t among = among-use vs t among
  target-use (bag vs) t among = among-use vs t among
  target-use (typed u v) t among = target-use v t among

  from-use : (k : ℕ) (vs : Values) (t : ℕ) → Contains (targets_in vs) t → HasUse (uses_from k vs) t
  from-use k no_values t among = absurd (Contains-none t among)
  from-use k (value v vs) t among = joined-use (map (within k) (value_uses v)) (uses_from (k + 1) vs) (targets v) (targets_in vs) t (λ at. within-use k (value_uses v) t (target-use v t at)) (from-use (k + 1) vs t) among

  among-use : (vs : Values) (t : ℕ) → Contains (targets_in vs) t → HasUse (uses_among vs) t
  among-use no_values t among = absurd (Contains-none t among)
  among-use (value v vs) t among = joined-use (map (within 0) (value_uses v)) (uses_among vs) (targets v) (targets_in vs) t (λ at. within-use 0 (value_uses v) t (target-use v t at)) (among-use vs t) among

pub rows-use : (k : ℕ) (rows : List Values) (t : ℕ) → Contains (flat_map targets_in rows) t → HasUse (rows_uses k rows) t
rows-use k [] t among = absurd (Contains-none t among)
rows-use k (vs ∷ rows) t among = joined-use (map (within k) (uses_from 0 vs)) (rows_uses (k + 1) rows) (targets_in vs) (flat_map targets_in rows) t (λ at. within-use k (uses_from 0 vs) t (from-use 0 vs t at)) (rows-use (k + 1) rows t) among

abbrev pub typed_targets : Typed → List ℕ
typed_targets x = flat_map targets_in x.values

-- what means the same refers to the same
pub targets-same : (x y : Typed) → SameTyped x y → AreMembers (typed_targets x) (typed_targets y)
targets-same x y same t among =
    let (p, at) = rows-use 0 x.values t among in rows_uses-target 0 y.values (p, t) (typed_uses-same x y same (p, t) at)

-- ---- one meaning and one section under each name

pub one-typed : (m : FileMeaning) → IsWhole m → (n : ℕ) (x y : Typed) → Contains m.instances (n, x) → Contains m.instances (n, y) → x ≡ y
one-typed m whole_ n x y at at_ =
    ap (λ (i : ℕ × Typed). i.1) (one-keyed (λ (i : ℕ × Typed). i.0) m.instances (names-none_twice m whole_) (n, x) (n, y) at at_ refl)
