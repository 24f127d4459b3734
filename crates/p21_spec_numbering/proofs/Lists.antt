-- Lists in another order: their counts, and their texts in order.
use Rattle.std.specs.Prelude.{◌≡◌, ℕ, suc, length, ◌+◌, Bool, List, [], ◌∷◌, ◌++◌, map, Contains, refl, cond}
use Rattle.std.specs.List.{flat_map}
use Rattle.std.proofs.Common.{arith, ap, sym, subst, ◌∙◌, inl, inr}
use Rattle.p21_spec_basics.proofs.Members.{Contains-none, Contains-first, Contains-later, Contains-cases}
use Rattle.p21_spec_basics.proofs.Shuffles.{Taken, taken_first, taken_later, Shuffled, no_more, one_more, NoneTwice, AreMembers, Contains-taken, Taken-none_twice, Taken-other, Taken-kept}
use Rattle.p21_spec_file.specs.Sorting.{insert_text, sort_texts}
use Rattle.p21_spec_laws.proofs.Sorting.{sort-taken}
use Rattle.p21_spec_numbering.specs.Graph.{how_many}

pub map-agree : {X Y : Type 0} (f g : X → Y) (xs : List X) → ((x : X) → Contains xs x → f x ≡ g x) → map f xs ≡ map g xs
map-agree f g [] same = refl
map-agree {X} {Y} f g (x ∷ xs) same = ap (λ (y : Y). y ∷ map f xs) (same x (Contains-first x xs)) ∙ ap (λ (ys : List Y). g x ∷ ys) (map-agree f g xs (λ y among. same y (Contains-later x xs y among)))

pub map-mapped : {X Y Z : Type 0} (g : Y → Z) (f : X → Y) (xs : List X) → map g (map f xs) ≡ map (λ x. g (f x)) xs
map-mapped g f [] = refl
map-mapped {Z = Z} g f (x ∷ xs) = ap (λ (zs : List Z). g (f x) ∷ zs) (map-mapped g f xs)

pub flat_map-mapped : {X Y Z : Type 0} (g : Y → List Z) (f : X → Y) (xs : List X) → flat_map g (map f xs) ≡ flat_map (λ x. g (f x)) xs
flat_map-mapped g f [] = refl
flat_map-mapped {Z = Z} g f (x ∷ xs) = ap (λ (zs : List Z). g (f x) ++ zs) (flat_map-mapped g f xs)

-- ---- counts

pub count-mapped : {X Y : Type 0} (test : Y → Bool) (f : X → Y) (xs : List X) → how_many test (map f xs) ≡ how_many (λ x. test (f x)) xs
count-mapped test f [] = refl
count-mapped test f (x ∷ xs) = ap (λ n. cond (test (f x)) 1 0 + n) (count-mapped test f xs)

pub count-agree : {X : Type 0} (p q : X → Bool) (xs : List X) → ((x : X) → Contains xs x → p x ≡ q x) → how_many p xs ≡ how_many q xs
count-agree p q [] same = refl
count-agree p q (x ∷ xs) same = ap (λ (b : Bool). cond b 1 0 + how_many p xs) (same x (Contains-first x xs)) ∙ ap (λ n. cond (q x) 1 0 + n) (count-agree p q xs (λ y among. same y (Contains-later x xs y among)))

count-taken : {X : Type 0} (p : X → Bool) (x : X) (ys rest : List X) → Taken x ys rest → how_many p ys ≡ cond (p x) 1 0 + how_many p rest
count-taken {X} p x ys rest (taken_first y _ same) = ap (λ (z : X). cond (p z) 1 0 + how_many p rest) (sym same)
count-taken p x ys rest (taken_later y more rest_ taken) = let h = count-taken p x more rest_ taken in omega (arith, h)

pub count-shuffled : {X : Type 0} (p : X → Bool) (xs ys : List X) → Shuffled xs ys → how_many p xs ≡ how_many p ys
count-shuffled p xs ys no_more = refl
count-shuffled p xs ys (one_more x xs_ _ rest taken more) =
    ap (λ n. cond (p x) 1 0 + n) (count-shuffled p xs_ rest more) ∙ sym (count-taken p x ys rest taken)

-- ---- texts in order

pub sort-shuffled : (xs ys : List (List ℕ)) → Shuffled xs ys → sort_texts xs ≡ sort_texts ys
sort-shuffled xs ys no_more = refl
sort-shuffled xs ys (one_more x xs_ _ rest taken more) = ap (insert_text x) (sort-shuffled xs_ rest more) ∙ sym (sort-taken x ys rest taken)

-- lists with the same members, none twice
pub members-shuffled : {X : Type 0} (xs ys : List X) → NoneTwice xs → NoneTwice ys → AreMembers xs ys → AreMembers ys xs → Shuffled xs ys
members-shuffled [] [] none none_ onto back = no_more
members-shuffled [] (y ∷ ys) none none_ onto back = absurd (Contains-none y (back y (Contains-first y ys)))
members-shuffled {X} (x ∷ xs) ys none none_ onto back =
    let (rest, taken) = Contains-taken ys x (onto x (Contains-first x xs)) in
    let kept : ¬ Contains rest x × NoneTwice rest = Taken-none_twice x ys rest taken none_ in
    let onto_rest : AreMembers xs rest = λ z among. elim (Taken-other x ys rest taken z (onto z (Contains-later x xs z among))) [
      | inl h ↦ absurd (none.0 (let P : X → Type 0 = λ w. Contains xs w in subst P (sym h) among))
      | inr h ↦ h
    ] in
    let back_rest : AreMembers rest xs = λ z among. elim (Contains-cases x xs z (back z (Taken-kept x ys rest taken z among))) [
      | inl h ↦ absurd (kept.0 (let P : X → Type 0 = λ w. Contains rest w in subst P (sym h) among))
      | inr h ↦ h
    ] in
    one_more x xs ys rest taken (members-shuffled xs rest none.1 kept.1 onto_rest back_rest)

pub Shuffled-length : {X : Type 0} (xs ys : List X) → Shuffled xs ys → length xs ≡ length ys
Shuffled-length xs ys no_more = refl
Shuffled-length xs ys (one_more x xs_ _ rest taken more) = ap suc (Shuffled-length xs_ rest more) ∙ sym (taken-length x ys rest taken)
  where
    taken-length : {X : Type 0} (x : X) (ys rest : List X) → Taken x ys rest → length ys ≡ suc (length rest)
    taken-length x ys rest (taken_first y _ same) = refl
    taken-length x ys rest (taken_later y more rest_ taken) = ap suc (taken-length x more rest_ taken)
