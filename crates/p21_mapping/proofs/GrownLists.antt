-- Lists that grow by one, and what holds of each of their elements.
use Rattle.std.specs.Prelude.{◌≡◌, ℕ, zero, suc, ◌+◌, ◌<◌, ◌≤◌, ◌⊎◌, List, [], ◌∷◌, ◌++◌, length, map, take, slice_get, Some, Contains, refl}
use Rattle.std.specs.List.{AllZip, flat_map}
use Rattle.std.proofs.Common.{arith, ap, sym, ◌∙◌, subst, inl, inr, get_or}
use Rattle.std.proofs.lemmas.List.{append-nil, length-append, take_more}
use Rattle.std.proofs.lemmas.Option.{slice_get-get_or, slice_get-map}
use Rattle.std.specs.Option.{option_map}
use Rattle.std.proofs.lemmas.Grind.{flat_map-append}
use Rattle.p21_spec_basics.proofs.Members.{Contains-found, Contains-none, Contains-first, Contains-later, Contains-cases}
use Rattle.p21_spec_basics.proofs.Shuffles.{NoneTwice}
use Rattle.p21_express_graph.proofs.Lookups.{numbers-more}
use Rattle.p21_express_graph.proofs.Pairs.{AllZip-more}

-- what stands beside the element at a place
pub AllZip-at_second : {X Y : Type 0} (R : X → Y → Type 0) (xs : List X) (ys : List Y) (k : ℕ) (y : Y) → AllZip R xs ys
    → slice_get ys k ≡ Some y → (x : X) × (slice_get xs k ≡ Some x) × R x y
AllZip-at_second R [] [] k y all at = cc
AllZip-at_second R [] (z ∷ ys) k y all at = absurd all
AllZip-at_second R (x ∷ xs) [] k y all at = absurd all
AllZip-at_second {X} {Y} R (x ∷ xs) (z ∷ ys) zero y all at = let same : z ≡ y = cc in let P : Y
    → Type 0 = λ w. R x w in (x, refl, subst P same all.0)
AllZip-at_second R (x ∷ xs) (z ∷ ys) (suc k) y all at = AllZip-at_second R xs ys k y all.1 at

-- the elements at one place of both
pub AllZip-at_both : {X Y : Type 0} (R : X → Y → Type 0) (xs : List X) (ys : List Y) (k : ℕ) (x : X) (y : Y) → AllZip R xs ys
    → slice_get xs k ≡ Some x → slice_get ys k ≡ Some y → R x y
AllZip-at_both R [] ys k x y all at at_ = cc
AllZip-at_both R (z ∷ xs) [] k x y all at at_ = absurd all
AllZip-at_both {X} {Y} R (z ∷ xs) (w ∷ ys) zero x y all at at_ = let left : z ≡ x = cc in let right : w ≡ y = cc in let P : X
    → Type 0 = λ v. R v y in let Q : Y → Type 0 = λ v. R z v in subst P left (subst Q right all.0)
AllZip-at_both R (z ∷ xs) (w ∷ ys) (suc k) x y all at at_ = AllZip-at_both R xs ys k x y all.1 at at_

-- one element more of two lists
pub AllZip-both_more : {X Y Z W : Type 0} (R : Z → W → Type 0) (f : X → Z) (g : Y → W) (xs : List X) (ys : List Y) (k : ℕ) (d : X) (e : Y)
    → k < length xs → k < length ys
    → AllZip R (map f (take k xs)) (map g (take k ys)) → R (f (get_or xs k d)) (g (get_or ys k e))
    → AllZip R (map f (take (k + 1) xs)) (map g (take (k + 1) ys))
AllZip-both_more R f g xs ys k d e below below_ all one =
    AllZip-more R f g xs k d (take k ys) (take (k + 1) ys) (get_or ys k e) below (take_more ys k e below_) all one

-- an element of a front stands there in the whole list
pub take-at : {X : Type 0} (xs : List X) (n k : ℕ) (x : X) → slice_get (take n xs) k ≡ Some x → (k < n) × (slice_get xs k ≡ Some x)
take-at [] zero k x at = cc
take-at [] (suc n) k x at = cc
take-at (y ∷ ys) zero k x at = cc
take-at (y ∷ ys) (suc n) zero x at = (omega arith, at)
take-at (y ∷ ys) (suc n) (suc k) x at = let (below, is) = take-at ys n k x at in (omega (arith, below), is)

pub map-take : {X Y : Type 0} (f : X → Y) (n : ℕ) (xs : List X) → map f (take n xs) ≡ take n (map f xs)
map-take f zero [] = refl
map-take f (suc n) [] = refl
map-take f zero (x ∷ xs) = refl
map-take f (suc n) (x ∷ xs) = ap (λ ys. f x ∷ ys) (map-take f n xs)

pub Contains-pushed : {X : Type 0} (xs : List X) (x y : X) → Contains (xs ++ x ∷ []) y → Contains xs y ⊎ (x ≡ y)
Contains-pushed [] x y among = elim (Contains-cases x [] y among) [ inl h ↦ inr h | inr h ↦ absurd (Contains-none y h) ]
Contains-pushed (z ∷ xs) x y among = elim (Contains-cases z (xs ++ x ∷ []) y among) [
  | inl h ↦ inl (0, omega arith, h)
  | inr h ↦ elim (Contains-pushed xs x y h) [ inl i ↦ inl (Contains-later z xs y i) | inr i ↦ inr i ]
]

-- a new element behind different ones
pub NoneTwice-push : {X : Type 0} (xs : List X) (x : X) → NoneTwice xs → ¬ Contains xs x → NoneTwice (xs ++ x ∷ [])
NoneTwice-push [] x none new = (λ among. Contains-none x among, tt)
NoneTwice-push {X} (y ∷ ys) x none new = (
  λ among. elim (Contains-pushed ys x y among) [
    | inl h ↦ none.0 h
    | inr h ↦ new (let P : X → Type 0 = λ z. Contains (y ∷ ys) z in subst P (sym h) (Contains-first y ys))
  ],
  NoneTwice-push ys x none.1 (λ among. new (Contains-later y ys x among)),
)

-- a number that doesn't stand further in front is a new one
pub NoneTwice-more : {X : Type 0} (number : X → ℕ) (xs : List X) (n : ℕ) (d : X) → n < length xs → NoneTwice (map number (take n xs))
    → ¬ Contains (map number (take n xs)) (number (get_or xs n d)) → NoneTwice (map number (take (n + 1) xs))
NoneTwice-more number xs n d low none new = let P : List ℕ
    → Type 0 = λ ys. NoneTwice ys in subst P (sym (numbers-more number xs n d low))
    (NoneTwice-push (map number (take n xs)) (number (get_or xs n d)) none new)

-- what stands at its place
pub mapped-at : {X Y : Type 0} (f : X → Y) (xs : List X) (k : ℕ) (d : X) → k < length xs → slice_get (map f xs) k ≡ Some (f (get_or xs k d))
mapped-at f xs k d below = slice_get-map f xs k ∙ ap (option_map f) (slice_get-get_or xs k d below)

-- a member that was read
pub numbered-is : {X Y : Type 0} (f : X → Y) (xs : List X) (k : ℕ) (x : X) → k < length xs → x ≡ get_or xs k x → Contains (map f xs) (f x)
numbered-is {X} {Y} f xs k x below is = let P : X → Type 0 = λ z. Contains (map f xs) (f z) in
    subst P (sym is) (Contains-found (map f xs) k (f (get_or xs k x)) (mapped-at f xs k x below))

-- a member at its place
pub numbered : {X Y : Type 0} (f : X → Y) (xs : List X) (k : ℕ) (d : X) → k < length xs → Contains (map f xs) (f (get_or xs k d))
numbered f xs k d below = Contains-found (map f xs) k (f (get_or xs k d)) (mapped-at f xs k d below)

-- how much one list more adds
pub flat_map-more : {X Y : Type 0} (number : X → ℕ) (f : ℕ → List Y) (xs : List X) (k : ℕ) (d : X) → k < length xs
    → length (flat_map f (map number (take (k + 1) xs))) ≡ length (flat_map f (map number (take k xs))) + length
    (f (number (get_or xs k d)))
flat_map-more number f xs k d below =
    ap (λ ys. length (flat_map f ys)) (numbers-more number xs k d below)
    ∙ ap length (flat_map-append f (map number (take k xs)) (number (get_or xs k d) ∷ []))
    ∙ length-append (flat_map f (map number (take k xs))) (f (number (get_or xs k d)) ++ [])
    ∙ ap (λ ys. length (flat_map f (map number (take k xs))) + length ys) (append-nil (f (number (get_or xs k d))))

-- a front adds no more than the whole
pub flat_map-front : {X Y : Type 0} (number : X → ℕ) (f : ℕ → List Y) (xs : List X) (k : ℕ)
    → length (flat_map f (map number (take k xs))) ≤ length (flat_map f (map number xs))
flat_map-front number f [] zero = omega arith
flat_map-front number f [] (suc k) = omega arith
flat_map-front number f (x ∷ xs) zero = omega arith
flat_map-front number f (x ∷ xs) (suc k) = omega (
  arith,
  flat_map-front number f xs k,
  length-append (f (number x))
      (flat_map f (map number (take k xs))),
  length-append (f (number x)) (flat_map f (map number xs)),
)
