-- Tables of lists by an index, behind whose last one there is nothing.
use Rattle.std.specs.Prelude.{◌≡◌, ◌≢◌, ℕ, zero, suc, ◌<◌, ◌≤◌, List, [], ◌∷◌, ◌++◌, length, slice_set, refl}
use Rattle.std.specs.Prelude as std
use Rattle.std.specs.declared.alloc.Global.{Global}
use Rattle.std.proofs.Common.{arith, ap, sym, get_or}
use Rattle.p21_schema.specs.Redeclarers.{items_at}

module _ {T : Type 0} where
  pub items-there : (lists : List (std.Vec T Global)) (k : ℕ) (list : std.Vec T Global) → k < length lists → list ≡ get_or lists k list
      → items_at lists k ≡ list.items
  items-there [] k list below is = absurd (omega (arith, below))
  items-there (l ∷ lists) zero list below is = ap (λ v. v.items) (sym is)
  items-there (l ∷ lists) (suc k) list below is = items-there lists k list (omega (arith, below)) is

  pub items-past : (lists : List (std.Vec T Global)) (k : ℕ) → length lists ≤ k → items_at lists k ≡ []
  items-past [] k past = refl
  items-past (l ∷ lists) zero past = absurd (omega (arith, past))
  items-past (l ∷ lists) (suc k) past = items-past lists k (omega (arith, past))

  -- one empty list more
  pub items-more : (lists : List (std.Vec T Global)) (list : std.Vec T Global) → list.items ≡ [] → (k : ℕ)
      → items_at (lists ++ list ∷ []) k ≡ items_at lists k
  items-more [] list none zero = none
  items-more [] list none (suc k) = refl
  items-more (l ∷ lists) list none zero = refl
  items-more (l ∷ lists) list none (suc k) = items-more lists list none k

  -- what stands at the index that was written, and at others
  pub items-here : (lists : List (std.Vec T Global)) (k : ℕ) (list : std.Vec T Global) → k < length lists
      → items_at (slice_set lists k list) k ≡ list.items
  items-here [] k list below = absurd (omega (arith, below))
  items-here (l ∷ lists) zero list below = refl
  items-here (l ∷ lists) (suc k) list below = items-here lists k list (omega (arith, below))

  pub items-other : (lists : List (std.Vec T Global)) (k m : ℕ) (list : std.Vec T Global) → m ≢ k
      → items_at (slice_set lists k list) m ≡ items_at lists m
  items-other [] k m list other = refl
  items-other (l ∷ lists) zero zero list other = absurd (other refl)
  items-other (l ∷ lists) zero (suc m) list other = refl
  items-other (l ∷ lists) (suc k) zero list other = refl
  items-other (l ∷ lists) (suc k) (suc m) list other = items-other lists k m list (λ e. other (ap suc e))
