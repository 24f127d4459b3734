-- Counts, and the numbers from 0 on.
use Rattle.std.specs.Prelude.{◌≡◌, ℕ, zero, suc, ◌+◌, ◌<◌, ◌≤◌, Bool, true, false, cond, List, [], ◌∷◌, length, Contains, refl}
use Rattle.std.specs.List.{range_with_len}
use Rattle.std.proofs.Common.{arith, ap, sym, subst, ◌∙◌, inl, inr, get_or}
use Rattle.std.proofs.lemmas.List.Elements.{Contains-get_or}
use Rattle.std.proofs.lemmas.List.FromFn.{length-range_with_len, get_or-range_with_len}
use Rattle.p21_spec_basics.proofs.Members.{Contains-none, Contains-first, Contains-later, Contains-cases}
use Rattle.p21_spec_basics.proofs.Shuffles.{NoneTwice}
use Rattle.p21_spec_numbering.specs.Graph.{how_many}

pub Contains-range : (n m : ℕ) → m < n → Contains (range_with_len 0 n) m
Contains-range n m low =
    let P : ℕ → Type 0 = λ k. Contains (range_with_len 0 n) k in
    let none : 0 + m ≡ m = omega arith in
    subst P (get_or-range_with_len 0 n m 0 low ∙ none)
    (Contains-get_or (range_with_len 0 n) m 0 (omega (arith, low, length-range_with_len 0 n)))

range-bounds : (a n m : ℕ) → Contains (range_with_len a n) m → (a ≤ m) × (m < a + n)
range-bounds a zero m among = absurd (Contains-none m among)
range-bounds a (suc n) m among = elim (Contains-cases a (range_with_len (a + 1) n) m among) [
  | inl same ↦ (omega (arith, same), omega (arith, same))
  | inr later ↦ (let (from, below) = range-bounds (a + 1) n m later in (omega (arith, from), omega (arith, below)))
]

pub range-below : (n m : ℕ) → Contains (range_with_len 0 n) m → m < n
range-below n m among = omega (arith, (range-bounds 0 n m among).1)

pub range-none_twice : (n : ℕ) → NoneTwice (range_with_len 0 n)
range-none_twice n = from 0 n
  where
    from : (a k : ℕ) → NoneTwice (range_with_len a k)
    from a zero = tt
    from a (suc k) = (λ among. let (low, high) = range-bounds (a + 1) k a among in omega (arith, low), from (a + 1) k)

pub none-counted : {X : Type 0} (p : X → Bool) (xs : List X) → ((x : X) → Contains xs x → p x ≡ false) → how_many p xs ≡ 0
none-counted p [] none = refl
none-counted p (x ∷ xs) none =
    let first : ◌≡◌ {A = ℕ} (cond (p x) 1 0) 0 = ap (λ (b : Bool). cond b 1 0) (none x (Contains-first x xs)) in
    let rest = none-counted p xs (λ y among. none y (Contains-later x xs y among)) in
    omega (arith, first, rest)

pub some-counted : {X : Type 0} (p : X → Bool) (xs : List X) (x : X) → Contains xs x → p x ≡ true → 0 < how_many p xs
some-counted p [] x among pass = absurd (Contains-none x among)
some-counted {X} p (y ∷ ys) x among pass = elim (Contains-cases y ys x among) [
  | inl same ↦ (let P : X → Type 0 = λ z. p z ≡ true in let first : ◌≡◌ {A = ℕ} (cond (p y) 1 0) 1 =
      ap (λ (b : Bool). cond b 1 0) (subst P (sym same) pass) in omega (arith, first))
  | inr later ↦ (let rest = some-counted p ys x later pass in omega (arith, rest))
]

-- the number at a place, whatever stands in for one that isn't there
pub number-at : (xs : List ℕ) (i x : ℕ) → i < length xs → x ≡ get_or xs i x → x ≡ get_or xs i 0
number-at [] i x low is = absurd (omega (arith, low))
number-at (y ∷ ys) zero x low is = is
number-at (y ∷ ys) (suc i) x low is = number-at ys i x (omega (arith, low)) is

pub flag-at : (xs : List Bool) (i : ℕ) (x d : Bool) → i < length xs → x ≡ get_or xs i d → x ≡ get_or xs i false
flag-at [] i x d low is = absurd (omega (arith, low))
flag-at (y ∷ ys) zero x d low is = is
flag-at (y ∷ ys) (suc i) x d low is = flag-at ys i x d (omega (arith, low)) is
