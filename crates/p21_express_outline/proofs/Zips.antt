-- What holds of two lists, place by place.
use Rattle.std.specs.Prelude.{◌≡◌, ℕ, zero, suc, ◌+◌, List, [], ◌∷◌, ◌++◌, map, Some, slice_get, Contains, refl}
use Rattle.std.specs.List.{AllZip, enumerate_from, flat_map, AllByRecursion as Each}
use Rattle.std.proofs.Common.{ap, sym, ◌∙◌}
use Rattle.std.proofs.lemmas.List.{map-append}
use Rattle.p21_spec_basics.proofs.Members.{Contains-first, Contains-later}

pub AllZip-weaker : {X Y : Type 0} (P Q : X → Y → Type 0) → (xs : List X) (ys : List Y)
    → ((x : X) (y : Y) → Contains xs x → Contains ys y → P x y → Q x y) → AllZip P xs ys → AllZip Q xs ys
AllZip-weaker P Q [] [] weaker all = tt
AllZip-weaker P Q [] (y ∷ ys) weaker all = absurd all
AllZip-weaker P Q (x ∷ xs) [] weaker all = absurd all
AllZip-weaker P Q (x ∷ xs) (y ∷ ys) weaker all = (
  weaker x y (Contains-first x xs) (Contains-first y ys) all.0,
  AllZip-weaker P Q xs ys
      (λ z w among among_ holds. weaker z w (Contains-later x xs z among) (Contains-later y ys w among_) holds) all.1,
)

pub AllZip-mapped : {X Y Z : Type 0} (R : Z → Y → Type 0) (f : X → Z) (xs : List X) (ys : List Y) → AllZip (λ x y. R (f x) y) xs ys
    → AllZip R (map f xs) ys
AllZip-mapped R f [] [] all = tt
AllZip-mapped R f [] (y ∷ ys) all = absurd all
AllZip-mapped R f (x ∷ xs) [] all = absurd all
AllZip-mapped R f (x ∷ xs) (y ∷ ys) all = (all.0, AllZip-mapped R f xs ys all.1)

pub AllZip-unmapped : {X Y Z : Type 0} (R : Z → Y → Type 0) (f : X → Z) (xs : List X) (ys : List Y) → AllZip R (map f xs) ys
    → AllZip (λ x y. R (f x) y) xs ys
AllZip-unmapped R f [] [] all = tt
AllZip-unmapped R f [] (y ∷ ys) all = absurd all
AllZip-unmapped R f (x ∷ xs) [] all = absurd all
AllZip-unmapped R f (x ∷ xs) (y ∷ ys) all = (all.0, AllZip-unmapped R f xs ys all.1)

-- the same with numbers
pub numbered-mapped : {X Y Z : Type 0} (R : ℕ → Z → Y → Type 0) (f : X → Z) (n : ℕ) (xs : List X) (ys : List Y)
    → AllZip (λ p y. R p.0 (f p.1) y) (enumerate_from n xs) ys → AllZip (λ p y. R p.0 p.1 y) (enumerate_from n (map f xs)) ys
numbered-mapped R f n [] [] all = tt
numbered-mapped R f n [] (y ∷ ys) all = absurd all
numbered-mapped R f n (x ∷ xs) [] all = absurd all
numbered-mapped R f n (x ∷ xs) (y ∷ ys) all = (all.0, numbered-mapped R f (n + 1) xs ys all.1)

pub numbered-unmapped : {X Y Z : Type 0} (R : ℕ → Z → Y → Type 0) (f : X → Z) (n : ℕ) (xs : List X) (ys : List Y)
    → AllZip (λ p y. R p.0 p.1 y) (enumerate_from n (map f xs)) ys → AllZip (λ p y. R p.0 (f p.1) y) (enumerate_from n xs) ys
numbered-unmapped R f n [] [] all = tt
numbered-unmapped R f n [] (y ∷ ys) all = absurd all
numbered-unmapped R f n (x ∷ xs) [] all = absurd all
numbered-unmapped R f n (x ∷ xs) (y ∷ ys) all = (all.0, numbered-unmapped R f (n + 1) xs ys all.1)

-- numbers may be left out
pub numbered-weaker : {X Y : Type 0} (P Q : ℕ → X → Y → Type 0) (n : ℕ) (xs : List X) (ys : List Y)
    → ((k : ℕ) (x : X) (y : Y) → P k x y → Q k x y) → AllZip (λ p y. P p.0 p.1 y) (enumerate_from n xs) ys
    → AllZip (λ p y. Q p.0 p.1 y) (enumerate_from n xs) ys
numbered-weaker P Q n [] [] weaker all = tt
numbered-weaker P Q n [] (y ∷ ys) weaker all = absurd all
numbered-weaker P Q n (x ∷ xs) [] weaker all = absurd all
numbered-weaker P Q n (x ∷ xs) (y ∷ ys) weaker all = (weaker n x y all.0, numbered-weaker P Q (n + 1) xs ys weaker all.1)

pub unnumbered : {X Y : Type 0} (P : X → Y → Type 0) (n : ℕ) (xs : List X) (ys : List Y) → AllZip (λ p y. P p.1 y) (enumerate_from n xs) ys
    → AllZip P xs ys
unnumbered P n [] [] all = tt
unnumbered P n [] (y ∷ ys) all = absurd all
unnumbered P n (x ∷ xs) [] all = absurd all
unnumbered P n (x ∷ xs) (y ∷ ys) all = (all.0, unnumbered P (n + 1) xs ys all.1)

pub numbered : {X Y : Type 0} (P : X → Y → Type 0) (n : ℕ) (xs : List X) (ys : List Y) → AllZip P xs ys
    → AllZip (λ p y. P p.1 y) (enumerate_from n xs) ys
numbered P n [] [] all = tt
numbered P n [] (y ∷ ys) all = absurd all
numbered P n (x ∷ xs) [] all = absurd all
numbered P n (x ∷ xs) (y ∷ ys) all = (all.0, numbered P (n + 1) xs ys all.1)

pub numbered-both : {X Y : Type 0} (P Q : ℕ → X → Y → Type 0) (n : ℕ) (xs : List X) (ys : List Y)
    → AllZip (λ p y. P p.0 p.1 y) (enumerate_from n xs) ys → AllZip (λ p y. Q p.0 p.1 y) (enumerate_from n xs) ys
    → AllZip (λ p y. P p.0 p.1 y × Q p.0 p.1 y) (enumerate_from n xs) ys
numbered-both P Q n [] [] all all_ = tt
numbered-both P Q n [] (y ∷ ys) all all_ = absurd all
numbered-both P Q n (x ∷ xs) [] all all_ = absurd all
numbered-both P Q n (x ∷ xs) (y ∷ ys) all all_ = ((all.0, all_.0), numbered-both P Q (n + 1) xs ys all.1 all_.1)

-- where each has one beside it, there is one list
pub AllZip-one : {X Y : Type 0} (P Q : X → Y → Type 0) → ((x : X) (y z : Y) → P x y → Q x z → y ≡ z) → (xs : List X) (ys zs : List Y)
    → AllZip P xs ys → AllZip Q xs zs → ys ≡ zs
AllZip-one P Q one [] [] [] all all_ = refl
AllZip-one P Q one [] [] (z ∷ zs) all all_ = absurd all_
AllZip-one P Q one [] (y ∷ ys) zs all all_ = absurd all
AllZip-one P Q one (x ∷ xs) [] zs all all_ = absurd all
AllZip-one P Q one (x ∷ xs) (y ∷ ys) [] all all_ = absurd all_
AllZip-one P Q one (x ∷ xs) (y ∷ ys) (z ∷ zs) all all_ =
    let first : y ≡ z = one x y z all.0 all_.0 in
    let rest : ys ≡ zs = AllZip-one P Q one xs ys zs all.1 all_.1 in
    ap (λ w. w ∷ ys) first ∙ ap (λ ws. z ∷ ws) rest

-- and the same the other way round
pub AllZip-one_first : {X Y : Type 0} (P Q : X → Y → Type 0) → ((x z : X) (y : Y) → P x y → Q z y → x ≡ z) → (xs zs : List X) (ys : List Y)
    → AllZip P xs ys → AllZip Q zs ys → xs ≡ zs
AllZip-one_first P Q one [] [] [] all all_ = refl
AllZip-one_first P Q one [] (z ∷ zs) [] all all_ = absurd all_
AllZip-one_first P Q one (x ∷ xs) zs [] all all_ = absurd all
AllZip-one_first P Q one [] zs (y ∷ ys) all all_ = absurd all
AllZip-one_first P Q one (x ∷ xs) [] (y ∷ ys) all all_ = absurd all_
AllZip-one_first P Q one (x ∷ xs) (z ∷ zs) (y ∷ ys) all all_ =
    let first : x ≡ z = one x z y all.0 all_.0 in
    let rest : xs ≡ zs = AllZip-one_first P Q one xs zs ys all.1 all_.1 in
    ap (λ w. w ∷ xs) first ∙ ap (λ ws. z ∷ ws) rest

-- numbered, where the number may matter
pub numbered-one : {X Y : Type 0} (P Q : ℕ → X → Y → Type 0) → ((k : ℕ) (x : X) (y z : Y) → P k x y → Q k x z → y ≡ z)
    → (n : ℕ) (xs : List X) (ys zs : List Y) → AllZip (λ p y. P p.0 p.1 y) (enumerate_from n xs) ys
    → AllZip (λ p y. Q p.0 p.1 y) (enumerate_from n xs) zs → ys ≡ zs
numbered-one P Q one n [] [] [] all all_ = refl
numbered-one P Q one n [] [] (z ∷ zs) all all_ = absurd all_
numbered-one P Q one n [] (y ∷ ys) zs all all_ = absurd all
numbered-one P Q one n (x ∷ xs) [] zs all all_ = absurd all
numbered-one P Q one n (x ∷ xs) (y ∷ ys) [] all all_ = absurd all_
numbered-one P Q one n (x ∷ xs) (y ∷ ys) (z ∷ zs) all all_ =
    let first : y ≡ z = one n x y z all.0 all_.0 in
    let rest : ys ≡ zs = numbered-one P Q one (n + 1) xs ys zs all.1 all_.1 in
    ap (λ w. w ∷ ys) first ∙ ap (λ ws. z ∷ ws) rest

-- what is the same place by place
pub AllZip-same : {X Y Z : Type 0} (R : X → Y → Type 0) (f : X → Z) (g : Y → Z) → ((x : X) (y : Y) → R x y → g y ≡ f x)
    → (xs : List X) (ys : List Y) → AllZip R xs ys → map g ys ≡ map f xs
AllZip-same R f g same [] [] all = refl
AllZip-same R f g same [] (y ∷ ys) all = absurd all
AllZip-same R f g same (x ∷ xs) [] all = absurd all
AllZip-same R f g same (x ∷ xs) (y ∷ ys) all =
    let first : g y ≡ f x = same x y all.0 in
    let rest : map g ys ≡ map f xs = AllZip-same R f g same xs ys all.1 in
    ap (λ w. w ∷ map g ys) first ∙ ap (λ ws. f x ∷ ws) rest

-- ---- lists by functions

pub map-twice : {X Y Z : Type 0} (f : X → Y) (g : Y → Z) (xs : List X) → map g (map f xs) ≡ map (λ x. g (f x)) xs
map-twice f g [] = refl
map-twice f g (x ∷ xs) = ap (λ ys. g (f x) ∷ ys) (map-twice f g xs)

pub map-same : {X Y : Type 0} (f g : X → Y) (xs : List X) → ((x : X) → f x ≡ g x) → map f xs ≡ map g xs
map-same f g [] same = refl
map-same f g (x ∷ xs) same = ap (λ y. y ∷ map f xs) (same x) ∙ ap (λ ys. g x ∷ ys) (map-same f g xs same)

pub flat_map-mapped : {X Y Z W : Type 0} (f : X → Y) (g : Y → List Z) (h : X → List W) (k : W → Z) (xs : List X)
    → ((x : X) → g (f x) ≡ map k (h x)) → flat_map g (map f xs) ≡ map k (flat_map h xs)
flat_map-mapped f g h k [] same = refl
flat_map-mapped f g h k (x ∷ xs) same = ap (λ zs. zs ++ flat_map g (map f xs)) (same x)
    ∙ ap (λ zs. map k (h x) ++ zs) (flat_map-mapped f g h k xs same) ∙ sym (map-append k (h x) (flat_map h xs))

-- the thing behind what stands at a number
pub at-mapped : {X Y : Type 0} (f : X → Y) (xs : List X) (k : ℕ) (y : Y) → slice_get (map f xs) k ≡ Some y
    → (x : X) × (slice_get xs k ≡ Some x) × (f x ≡ y)
at-mapped f [] k y is = cc
at-mapped f (x ∷ xs) zero y is = (x, refl, let same : f x ≡ y = cc in same)
at-mapped f (x ∷ xs) (suc k) y is = at-mapped f xs k y is

pub mapped-at : {X Y : Type 0} (f : X → Y) (xs : List X) (k : ℕ) (x : X) → slice_get xs k ≡ Some x → slice_get (map f xs) k ≡ Some (f x)
mapped-at f [] k x is = cc
mapped-at f (y ∷ xs) zero x is = (let same : y ≡ x = cc in ap (λ z. Some (f z)) same)
mapped-at f (y ∷ xs) (suc k) x is = mapped-at f xs k x is

-- where something holds of each of the first list
pub numbered-weaker_each : {X Y : Type 0} (E : X → Type 0) (P Q : ℕ → X → Y → Type 0) (n : ℕ) (xs : List X) (ys : List Y) → Each E xs
    → ((k : ℕ) (x : X) (y : Y) → E x → P k x y → Q k x y) → AllZip (λ p y. P p.0 p.1 y) (enumerate_from n xs) ys
    → AllZip (λ p y. Q p.0 p.1 y) (enumerate_from n xs) ys
numbered-weaker_each E P Q n [] [] each weaker all = tt
numbered-weaker_each E P Q n [] (y ∷ ys) each weaker all = absurd all
numbered-weaker_each E P Q n (x ∷ xs) [] each weaker all = absurd all
numbered-weaker_each E P Q n (x ∷ xs) (y ∷ ys) each weaker all =
    (weaker n x y each.0 all.0, numbered-weaker_each E P Q (n + 1) xs ys each.1 weaker all.1)

-- where what is beside each is the same by a function
pub AllZip-one_mapped : {X Y Z : Type 0} (P Q : X → Y → Type 0) (f : Y → Z) → ((x : X) (y z : Y) → P x y → Q x z → f y ≡ f z)
    → (xs : List X) (ys zs : List Y) → AllZip P xs ys → AllZip Q xs zs → map f ys ≡ map f zs
AllZip-one_mapped P Q f one [] [] [] all all_ = refl
AllZip-one_mapped P Q f one [] [] (z ∷ zs) all all_ = absurd all_
AllZip-one_mapped P Q f one [] (y ∷ ys) zs all all_ = absurd all
AllZip-one_mapped P Q f one (x ∷ xs) [] zs all all_ = absurd all
AllZip-one_mapped P Q f one (x ∷ xs) (y ∷ ys) [] all all_ = absurd all_
AllZip-one_mapped P Q f one (x ∷ xs) (y ∷ ys) (z ∷ zs) all all_ =
    let first : f y ≡ f z = one x y z all.0 all_.0 in
    let rest : map f ys ≡ map f zs = AllZip-one_mapped P Q f one xs ys zs all.1 all_.1 in
    ap (λ w. w ∷ map f ys) first ∙ ap (λ ws. f z ∷ ws) rest

pub AllZip-second_mapped : {X Y : Type 0} (R : X → Y → Type 0) (f : Y → Y) (xs : List X) (ys : List Y)
    → ((x : X) (y : Y) → R x y → R x (f y)) → AllZip R xs ys → AllZip R xs (map f ys)
AllZip-second_mapped R f [] [] so all = tt
AllZip-second_mapped R f [] (y ∷ ys) so all = absurd all
AllZip-second_mapped R f (x ∷ xs) [] so all = absurd all
AllZip-second_mapped R f (x ∷ xs) (y ∷ ys) so all = (so x y all.0, AllZip-second_mapped R f xs ys so all.1)
