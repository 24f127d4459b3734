-- Things by number, each of them once.
use Rattle.std.specs.Prelude.{◌≡◌, ◌⊎◌, ℕ, List, [], ◌∷◌, ◌++◌, slice_get, Some, Contains}
use Rattle.std.specs.BTreeMap.{BTreeMap, get_by}
use Rattle.std.specs.declared.cmp.Ordering.{Ordering}

-- a tree has the numbers of things, and no others; it orders its keys by what stands in them
pub record AreNumbered {K V : Type 0} (view : K → V) (order : V → V → Ordering) (things : List V) (numbers : BTreeMap K ℕ) : Type 0 where
  pub found : (thing : V) (number : ℕ) → get_by (λ key. order thing (view key)) numbers ≡ Some number → slice_get things number ≡ Some thing
  pub kept : (thing : V) (number : ℕ) → slice_get things number ≡ Some thing → get_by (λ key. order thing (view key)) numbers ≡ Some number

-- nothing has two numbers
abbrev pub AreOnce : {X : Type 0} → List X → Type 0
AreOnce {X} things = (thing : X) (number other : ℕ) → slice_get things number ≡ Some thing → slice_get things other ≡ Some thing
    → number ≡ other

-- A thing has this number; either it had it before, and nothing is new, or it is added behind the others, of which none is it
abbrev pub Interns : {X : Type 0} → List X → X → ℕ → List X → Type 0
Interns old thing number new = (slice_get new number ≡ Some thing) × ((new ≡ old) ⊎ ((new ≡ old ++ thing ∷ []) × (Contains old thing → ⊥)))
