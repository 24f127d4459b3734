-- The members of lists.
use Rattle.std.specs.Prelude.{◌≡◌, ℕ, zero, suc, ◌+◌, List, [], ◌∷◌, ◌++◌, map, filter, length, take, drop, ◌-◌, slice_get, Option, Some, Contains, refl, ◌⊎◌, Bool, true, false, cond}
use Rattle.std.specs.Str.{bytes_eq}
use Rattle.std.proofs.lemmas.Bool.{or_parts}
use Rattle.std.specs.List.{list_any, flat_map, zip, AllZip, enumerate_from, AllByRecursion as Each}
use Rattle.std.proofs.Common.{arith, subst, ap, sym, ◌∙◌, inl, inr}
use Rattle.std.proofs.lemmas.List.{length-drop}
use Rattle.std.proofs.Math.Seq.{take-length}
use Rattle.std.proofs.lemmas.List.Elements.{Contains-append_left, Contains-append_right, Contains-append_cases}

pub Contains-none : {X : Type 0} (x : X) → Contains [] x → ⊥
Contains-none x (k, below, is) = omega (arith, below)

pub Contains-first : {X : Type 0} (x : X) (xs : List X) → Contains (x ∷ xs) x
Contains-first x xs = (0, omega arith, refl)

pub Contains-later : {X : Type 0} (x : X) (xs : List X) (y : X) → Contains xs y → Contains (x ∷ xs) y
Contains-later x xs y (k, below, is) = (suc k, omega (arith, below), is)

pub Contains-cases : {X : Type 0} (x : X) (xs : List X) (y : X) → Contains (x ∷ xs) y → (x ≡ y) ⊎ Contains xs y
Contains-cases x xs y (zero, below, is) = inl is
Contains-cases x xs y (suc k, below, is) = inr (k, omega (arith, below), is)

pub Contains-flat_map : {X Y : Type 0} (g : X → List Y) (xs : List X) (x : X) (y : Y) → Contains xs x → Contains (g x) y → Contains (flat_map g xs) y
Contains-flat_map g [] x y at among = absurd (Contains-none x at)
Contains-flat_map {X} g (z ∷ zs) x y at among = elim (Contains-cases z zs x at) [
  | inl h ↦ let P : X → Type 0 = λ w. Contains (g w) y in Contains-append_left (g z) (flat_map g zs) y (subst P (sym h) among)
  | inr h ↦ Contains-append_right (g z) (flat_map g zs) y (Contains-flat_map g zs x y h among)
]

pub Contains-one_of : {X Y : Type 0} (g : X → List Y) (xs : List X) (y : Y) → Contains (flat_map g xs) y → (x : X) × Contains xs x × Contains (g x) y
Contains-one_of g [] y among = absurd (Contains-none y among)
Contains-one_of g (x ∷ xs) y among = elim (Contains-append_cases (g x) (flat_map g xs) y among) [
  | inl h ↦ (x, Contains-first x xs, h)
  | inr h ↦ let (other, at, found) = Contains-one_of g xs y h in (other, Contains-later x xs other at, found)
]

-- functions that give the same lists at the members
pub flat_map-same : {X Y : Type 0} (g h : X → List Y) (xs : List X) → ((x : X) → Contains xs x → g x ≡ h x) → flat_map g xs ≡ flat_map h xs
flat_map-same g h [] same = refl
flat_map-same g h (x ∷ xs) same = ap (λ ys. ys ++ flat_map g xs) (same x (Contains-first x xs)) ∙ ap (λ ys. h x ++ ys) (flat_map-same g h xs (λ y among. same y (Contains-later x xs y among)))

pub Contains-filter : {X : Type 0} (test : X → Bool) (xs : List X) (y : X) → test y ≡ true → Contains xs y → Contains (filter test xs) y
Contains-filter test [] y passes among = absurd (Contains-none y among)
Contains-filter test (x ∷ xs) y passes among = elim (Contains-cases x xs y among) [
  | inl h ↦ let P : Bool → Type 0 = λ b. Contains (cond b (x ∷ filter test xs) (filter test xs)) y in subst P (sym (ap test h ∙ passes)) (0, omega arith, h)
  | inr h ↦ kept (test x) (Contains-filter test xs y passes h)
]
  where
    kept : (b : Bool) → Contains (filter test xs) y → Contains (cond b (x ∷ filter test xs) (filter test xs)) y
    kept true found = Contains-later x (filter test xs) y found
    kept false found = found

pub Contains-unfiltered : {X : Type 0} (test : X → Bool) (xs : List X) (y : X) → Contains (filter test xs) y → Contains xs y
Contains-unfiltered test [] y among = among
Contains-unfiltered test (x ∷ xs) y among = by_test (test x) (λ h. Contains-unfiltered test xs y h) among
  where
    by_test : (b : Bool) → (Contains (filter test xs) y → Contains xs y) → Contains (cond b (x ∷ filter test xs) (filter test xs)) y → Contains (x ∷ xs) y
    by_test true rest found = elim (Contains-cases x (filter test xs) y found) [ inl h ↦ (0, omega arith, h) | inr h ↦ Contains-later x xs y (rest h) ]
    by_test false rest found = Contains-later x xs y (rest found)

-- a member has a number
pub Contains-at : {X : Type 0} (xs : List X) (x : X) → Contains xs x → (k : ℕ) × (slice_get xs k ≡ Some x)
Contains-at [] x among = absurd (Contains-none x among)
Contains-at (y ∷ ys) x among = elim (Contains-cases y ys x among) [
  | inl h ↦ (0, ap Some h)
  | inr h ↦ let (k, is) = Contains-at ys x h in (suc k, is)
]

-- and what has a number is a member
pub Contains-found : {X : Type 0} (xs : List X) (k : ℕ) (x : X) → slice_get xs k ≡ Some x → Contains xs x
Contains-found [] k x at = cc
Contains-found (y ∷ ys) zero x at = (0, omega arith, let same : y ≡ x = cc in same)
Contains-found (y ∷ ys) (suc k) x at = Contains-later y ys x (Contains-found ys k x at)

-- a member keeps its number where more stands behind it
pub at-front : {X : Type 0} (xs ys : List X) (k : ℕ) (x : X) → slice_get xs k ≡ Some x → slice_get (xs ++ ys) k ≡ Some x
at-front [] ys k x at = cc
at-front (z ∷ zs) ys zero x at = at
at-front (z ∷ zs) ys (suc k) x at = at-front zs ys k x at

-- and where others stand in front of it, its number grows by how many they are
pub at-behind : {X : Type 0} (xs ys : List X) (k : ℕ) (x : X) → slice_get ys k ≡ Some x → slice_get (xs ++ ys) (length xs + k) ≡ Some x
at-behind {X} [] ys k x at = let same : k ≡ 0 + k = omega arith in let P : ℕ → Type 0 = λ n. slice_get ys n ≡ Some x in subst P same at
at-behind {X} (z ∷ zs) ys k x at =
    let next : suc (length zs + k) ≡ length (z ∷ zs) + k = omega arith in
    let P : ℕ → Type 0 = λ n. slice_get (z ∷ zs ++ ys) n ≡ Some x in subst P next (at-behind zs ys k x at)

pub Contains-mapped : {X Y : Type 0} (f : X → Y) (xs : List X) (x : X) → Contains xs x → Contains (map f xs) (f x)
Contains-mapped f [] x among = absurd (Contains-none x among)
Contains-mapped f (y ∷ ys) x among = elim (Contains-cases y ys x among) [ inl h ↦ (0, omega arith, ap f h) | inr h ↦ Contains-later (f y) (map f ys) (f x) (Contains-mapped f ys x h) ]

pub Contains-unmapped : {X Y : Type 0} (f : X → Y) (xs : List X) (y : Y) → Contains (map f xs) y → (x : X) × Contains xs x × (f x ≡ y)
Contains-unmapped f [] y among = absurd (Contains-none y among)
Contains-unmapped f (x ∷ xs) y among = elim (Contains-cases (f x) (map f xs) y among) [
  | inl h ↦ (x, Contains-first x xs, h)
  | inr h ↦ let (found, at, is) = Contains-unmapped f xs y h in (found, Contains-later x xs found at, is)
]

-- what holds of each holds of a member
pub Each-member : {X : Type 0} (P : X → Type 0) (xs : List X) (x : X) → Each P xs → Contains xs x → P x
Each-member P [] x each among = absurd (Contains-none x among)
Each-member P (y ∷ ys) x each among = elim (Contains-cases y ys x among) [ inl h ↦ subst P h each.0 | inr h ↦ Each-member P ys x each.1 h ]

-- and of the one of a number
pub Each-at : {X : Type 0} (P : X → Type 0) (xs : List X) (k : ℕ) (x : X) → Each P xs → slice_get xs k ≡ Some x → P x
Each-at P [] k x each is = cc
Each-at {X} P (y ∷ ys) zero x each is = let same : y ≡ x = cc in subst P same each.0
Each-at P (y ∷ ys) (suc k) x each is = Each-at P ys k x each.1 is

-- what holds of each member holds of each
pub Each-of_members : {X : Type 0} (P : X → Type 0) (xs : List X) → ((x : X) → Contains xs x → P x) → Each P xs
Each-of_members P [] holds = tt
Each-of_members P (x ∷ xs) holds = (holds x (Contains-first x xs), Each-of_members P xs (λ y among. holds y (Contains-later x xs y among)))

-- what holds of each of two lists, one behind the other
pub Each-append : {X : Type 0} (P : X → Type 0) (xs ys : List X) → Each P xs → Each P ys → Each P (xs ++ ys)
Each-append P [] ys each each_ = each_
Each-append P (x ∷ xs) ys each each_ = (each.0, Each-append P xs ys each.1 each_)

pub Each-front : {X : Type 0} (P : X → Type 0) (xs ys : List X) → Each P (xs ++ ys) → Each P xs
Each-front P [] ys each = tt
Each-front P (x ∷ xs) ys each = (each.0, Each-front P xs ys each.1)

pub Each-back : {X : Type 0} (P : X → Type 0) (xs ys : List X) → Each P (xs ++ ys) → Each P ys
Each-back P [] ys each = each
Each-back P (x ∷ xs) ys each = Each-back P xs ys each.1

-- of each of several lists
pub Each-joined : {X Y : Type 0} (P : Y → Type 0) (g : X → List Y) (xs : List X) → Each (λ (x : X). Each P (g x)) xs → Each P (flat_map g xs)
Each-joined P g [] each = tt
Each-joined P g (x ∷ xs) each = Each-append P (g x) (flat_map g xs) each.0 (Each-joined P g xs each.1)

pub Each-apart : {X Y : Type 0} (P : Y → Type 0) (g : X → List Y) (xs : List X) → Each P (flat_map g xs) → Each (λ (x : X). Each P (g x)) xs
Each-apart P g [] each = tt
Each-apart P g (x ∷ xs) each = (Each-front P (g x) (flat_map g xs) each, Each-apart P g xs (Each-back P (g x) (flat_map g xs) each))

-- of what each is mapped to
pub Each-mapped : {X Y : Type 0} (P : Y → Type 0) (f : X → Y) (xs : List X) → Each (λ (x : X). P (f x)) xs → Each P (map f xs)
Each-mapped P f [] each = tt
Each-mapped P f (x ∷ xs) each = (each.0, Each-mapped P f xs each.1)

pub Each-unmapped : {X Y : Type 0} (P : Y → Type 0) (f : X → Y) (xs : List X) → Each P (map f xs) → Each (λ (x : X). P (f x)) xs
Each-unmapped P f [] each = tt
Each-unmapped P f (x ∷ xs) each = (each.0, Each-unmapped P f xs each.1)

-- what follows from what holds of each
pub Each-weaker : {X : Type 0} (P Q : X → Type 0) → ((x : X) → P x → Q x) → (xs : List X) → Each P xs → Each Q xs
Each-weaker P Q weaker [] each = tt
Each-weaker P Q weaker (x ∷ xs) each = (weaker x each.0, Each-weaker P Q weaker xs each.1)

-- what holds of two lists place by place holds of a member of the first and some member of the second
pub AllZip-member : {X Y : Type 0} (R : X → Y → Type 0) (xs : List X) (ys : List Y) (x : X) → AllZip R xs ys → Contains xs x → (y : Y) × Contains ys y × R x y
AllZip-member R [] ys x all among = absurd (Contains-none x among)
AllZip-member R (z ∷ zs) [] x all among = absurd all
AllZip-member {X} R (z ∷ zs) (y ∷ ys) x all among = elim (Contains-cases z zs x among) [
  | inl h ↦ let P : X → Type 0 = λ w. R w y in (y, Contains-first y ys, subst P h all.0)
  | inr h ↦ let (other, at, holds) = AllZip-member R zs ys x all.1 h in (other, Contains-later y ys other at, holds)
]

-- and of a member of the second and some member of the first
pub AllZip-second_member : {X Y : Type 0} (R : X → Y → Type 0) (xs : List X) (ys : List Y) (y : Y) → AllZip R xs ys → Contains ys y → (x : X) × Contains xs x × R x y
AllZip-second_member R xs [] y all among = absurd (Contains-none y among)
AllZip-second_member R [] (z ∷ zs) y all among = absurd all
AllZip-second_member R (x ∷ xs) (z ∷ zs) y all among = elim (Contains-cases z zs y among) [
  | inl h ↦ (x, Contains-first x xs, subst (R x) h all.0)
  | inr h ↦ let (other, at, holds) = AllZip-second_member R xs zs y all.1 h in (other, Contains-later x xs other at, holds)
]

-- and of two that stand beside each other
pub AllZip-beside : {X Y : Type 0} (R : X → Y → Type 0) (xs : List X) (ys : List Y) (x : X) (y : Y) → AllZip R xs ys → Contains (zip xs ys) (x, y) → R x y
AllZip-beside R [] ys x y all among = absurd (Contains-none (x, y) among)
AllZip-beside R (z ∷ zs) [] x y all among = absurd all
AllZip-beside {X} {Y} R (z ∷ zs) (w ∷ ws) x y all among = elim (Contains-cases (z, w) (zip zs ws) (x, y) among) [
  | inl h ↦ let P : X × Y → Type 0 = λ p. R p.0 p.1 in subst P h all.0
  | inr h ↦ AllZip-beside R zs ws x y all.1 h
]

-- two things that hold place by place
pub AllZip-both : {X Y : Type 0} (P Q : X → Y → Type 0) (xs : List X) (ys : List Y) → AllZip P xs ys → AllZip Q xs ys → AllZip (λ x y. P x y × Q x y) xs ys
AllZip-both P Q [] [] all all_ = tt
AllZip-both P Q [] (y ∷ ys) all all_ = absurd all
AllZip-both P Q (x ∷ xs) [] all all_ = absurd all
AllZip-both P Q (x ∷ xs) (y ∷ ys) all all_ = ((all.0, all_.0), AllZip-both P Q xs ys all.1 all_.1)

-- the lists the other way round
pub AllZip-turned : {X Y : Type 0} (R : X → Y → Type 0) (xs : List X) (ys : List Y) → AllZip R xs ys → AllZip (λ y x. R x y) ys xs
AllZip-turned R [] [] all = tt
AllZip-turned R [] (y ∷ ys) all = absurd all
AllZip-turned R (x ∷ xs) [] all = absurd all
AllZip-turned R (x ∷ xs) (y ∷ ys) all = (all.0, AllZip-turned R xs ys all.1)

-- the first of two that stand beside each other is a member of the first list
pub Contains-zip : {X Y : Type 0} (xs : List X) (ys : List Y) (x : X) (y : Y) → Contains (zip xs ys) (x, y) → Contains xs x
Contains-zip [] ys x y among = absurd (Contains-none (x, y) among)
Contains-zip (z ∷ zs) [] x y among = absurd (Contains-none (x, y) among)
Contains-zip (z ∷ zs) (w ∷ ws) x y among = elim (Contains-cases (z, w) (zip zs ws) (x, y) among) [
  | inl h ↦ (0, omega arith, ap (λ p. p.0) h)
  | inr h ↦ Contains-later z zs x (Contains-zip zs ws x y h)
]

-- what stands beside a key in one list stands beside it in another, place by place
pub zip-along : {X Y : Type 0} (R : Y → Y → Type 0) (es : List X) (ys zs : List Y) → AllZip R ys zs → (e : X) (y : Y) → Contains (zip es ys) (e, y) → (z : Y) × Contains (zip es zs) (e, z) × R y z
zip-along R [] ys zs all e y among = absurd (Contains-none (e, y) among)
zip-along R (x ∷ xs) [] zs all e y among = absurd (Contains-none (e, y) among)
zip-along R (x ∷ xs) (w ∷ ws) [] all e y among = absurd all
zip-along {X} {Y} R (x ∷ xs) (w ∷ ws) (u ∷ us) all e y among = elim (Contains-cases (x, w) (zip xs ws) (e, y) among) [
  | inl h ↦
      let P : X → Type 0 = λ q. Contains ((x, u) ∷ zip xs us) (q, u) in
      let Q : Y → Type 0 = λ q. R q u in
      (u, subst P (ap (λ (p : X × Y). p.0) h) (Contains-first (x, u) (zip xs us)), subst Q (ap (λ (p : X × Y). p.1) h) all.0)
  | inr h ↦ let (z, at, holds) = zip-along R xs ws us all.1 e y h in (z, Contains-later (x, u) (zip xs us) (e, z) at, holds)
]

-- what holds of a list with numbers from n on and of another, place by place, holds at each number
pub AllZip-numbered : {X Y : Type 0} (R : ℕ → X → Y → Type 0) (n : ℕ) (xs : List X) (ys : List Y) (k : ℕ) (y : Y) → AllZip (λ x y. R x.0 x.1 y) (enumerate_from n xs) ys → slice_get ys k ≡ Some y
    → (x : X) × (slice_get xs k ≡ Some x) × R (n + k) x y
AllZip-numbered R n [] [] k y all is = cc
AllZip-numbered R n [] (z ∷ zs) k y all is = absurd all
AllZip-numbered R n (x ∷ xs) [] k y all is = cc
AllZip-numbered {X} {Y} R n (x ∷ xs) (z ∷ zs) zero y all is = (x, refl, let same : z ≡ y = cc in let zero_ : n ≡ n + 0 = omega arith in let P : ℕ → Type 0 = λ m. R m x y in let Q : Y → Type 0 = λ w. R n x w in subst P zero_ (subst Q same all.0))
AllZip-numbered R n (x ∷ xs) (z ∷ zs) (suc k) y all is =
    let (found, at, holds) = AllZip-numbered R (n + 1) xs zs k y all.1 is in
    let more : n + 1 + k ≡ n + suc k = omega arith in
    let P : ℕ → Type 0 = λ m. R m found y in
    (found, at, subst P more holds)

-- and at each number of the first
pub AllZip-numbered_first : {X Y : Type 0} (R : ℕ → X → Y → Type 0) (n : ℕ) (xs : List X) (ys : List Y) (k : ℕ) (x : X) → AllZip (λ x y. R x.0 x.1 y) (enumerate_from n xs) ys → slice_get xs k ≡ Some x
    → (y : Y) × (slice_get ys k ≡ Some y) × R (n + k) x y
AllZip-numbered_first R n [] ys k x all is = cc
AllZip-numbered_first R n (z ∷ zs) [] k x all is = absurd all
AllZip-numbered_first {X} {Y} R n (z ∷ zs) (y ∷ ys) zero x all is = (y, refl, let same : z ≡ x = cc in let zero_ : n ≡ n + 0 = omega arith in let P : ℕ → Type 0 = λ m. R m x y in let Q : X → Type 0 = λ w. R n w y in subst P zero_ (subst Q same all.0))
AllZip-numbered_first R n (z ∷ zs) (y ∷ ys) (suc k) x all is =
    let (found, at, holds) = AllZip-numbered_first R (n + 1) zs ys k x all.1 is in
    let more : n + 1 + k ≡ n + suc k = omega arith in
    let P : ℕ → Type 0 = λ m. R m x found in
    (found, at, subst P more holds)

-- a word that a test finds in no list of words is none of them
pub Contains-no_word : (x : List ℕ) (xs : List (List ℕ)) → bytes_eq x x ≡ true → list_any (bytes_eq x) xs ≡ false → Contains xs x → ⊥
Contains-no_word x [] same none (k, below, is) = omega (arith, below)
Contains-no_word x (y ∷ ys) same none (zero, below, is) = let h : true ≡ false = sym same ∙ ap (λ z. bytes_eq x z) (sym is) ∙ (or_parts (bytes_eq x y) (list_any (bytes_eq x) ys) none).0 in cc
Contains-no_word x (y ∷ ys) same none (suc k, below, is) = Contains-no_word x ys same (or_parts (bytes_eq x y) (list_any (bytes_eq x) ys) none).1 (k, omega (arith, below), is)

-- what a slice of a list from a place on holds
pub rest_is : (bytes : List ℕ) (count : ℕ) → take (length bytes - count) (drop count bytes) ≡ drop count bytes
rest_is bytes count = ap (λ (n : ℕ). take n (drop count bytes)) (sym (length-drop count bytes)) ∙ take-length (drop count bytes)

pub head_is : (x y : ℕ) (xs ys : List ℕ) → x ∷ xs ≡ y ∷ ys → x ≡ y
head_is x y xs ys e = cc

pub tail_is : (x y : ℕ) (xs ys : List ℕ) → x ∷ xs ≡ y ∷ ys → xs ≡ ys
tail_is x y xs ys e = cc

pub some_is : {X : Type 0} (x y : X) → Some x ≡ Some y → x ≡ y
some_is x y e = cc

pub some_pair_is : {X Y : Type 0} (x z : X) (y w : Y) → ◌≡◌ {A = Option (X × Y)} (Some (x, y)) (Some (z, w)) → (x ≡ z) × (y ≡ w)
some_pair_is {X} {Y} x z y w e = let same : ◌≡◌ {A = X × Y} (x, y) (z, w) = cc in (ap (λ (p : X × Y). p.0) same, ap (λ (p : X × Y). p.1) same)
