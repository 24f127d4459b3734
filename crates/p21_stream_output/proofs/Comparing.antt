-- A text that begins with prefixes in turn, or doesn't.
use Rattle.std.proofs.Common.{◌≡◌, ◌+◌, ◌<◌, ◌≤◌, ℕ, List, [], ◌++◌, length, map, take, drop, get_or, Option, Some, None, sym, ap, subst, ◌∙◌}
use Rattle.std.proofs.lemmas.List.{append_assoc, append_cancel_left, append-nil, take_all}
use Rattle.std.specs.List.{flat_map}
use Rattle.std.specs.Prelude.{MatchOption}
use Rattle.p21_stream_output.specs.Compared.{LacksPrefix}
use Rattle.p21_stream_output.proofs.Putting.{row-further, row-more, row-rest}

-- ---- one behind the other

pub both_behind : (text x y mid rest : List ℕ) → text ≡ x ++ mid → mid ≡ y ++ rest → text ≡ (x ++ y) ++ rest
both_behind text x y mid rest a b = a ∙ ap (λ (l : List ℕ). x ++ l) b ∙ sym (append_assoc x y rest)

pub not_first : (text x y : List ℕ) → LacksPrefix text x → LacksPrefix text (x ++ y)
not_first text x y apart rest e = apart (y ++ rest) (e ∙ append_assoc x y rest)

pub not_second : (text x y mid : List ℕ) → text ≡ x ++ mid → LacksPrefix mid y → LacksPrefix text (x ++ y)
not_second text x y mid a apart rest e = apart rest (append_cancel_left x mid (y ++ rest) (sym a ∙ e ∙ append_assoc x y rest))

-- ---- rows

pub more_behind : {X Y : Type 0} (text mid rest front : List ℕ) (g : Y → List ℕ) (h : X → Y) (xs : List X) (k : ℕ) (d : X) → k < length xs
    → front ≡ g (h (get_or xs k d)) → text ≡ flat_map g (map h (take k xs)) ++ mid
    → mid ≡ front ++ rest → text ≡ flat_map g (map h (take (k + 1) xs)) ++ rest
more_behind text mid rest front g h xs k d low is a b =
    both_behind text (flat_map g (map h (take k xs))) front mid rest a b
    ∙ ap (λ (l : List ℕ). l ++ rest) (ap (λ (l : List ℕ). flat_map g (map h (take k xs)) ++ l) is ∙ sym (row-more g h xs k d low))

pub none_behind : {X Y : Type 0} (text mid front : List ℕ) (g : Y → List ℕ) (h : X → Y) (xs : List X) (k : ℕ) (d : X) → k < length xs
    → front ≡ g (h (get_or xs k d)) → text ≡ flat_map g (map h (take k xs)) ++ mid
    → LacksPrefix mid front → LacksPrefix text (flat_map g (map h xs))
none_behind text mid front g h xs k d low is a apart =
    let so_far : LacksPrefix text (flat_map g (map h (take (k + 1) xs))) =
    subst (LacksPrefix text) (ap (λ (l : List ℕ). flat_map g (map h (take k xs)) ++ l) is ∙ sym (row-more g h xs k d low))
    (not_second text (flat_map g (map h (take k xs))) front mid a apart) in
    subst (LacksPrefix text) (sym (row-rest g h xs (k + 1)))
    (not_first text (flat_map g (map h (take (k + 1) xs))) (flat_map g (map h (drop (k + 1) xs))) so_far)

pub further_behind : {X Y : Type 0} (text mid rest : List ℕ) (g : Y → List ℕ) (h : X → Y) (xs : List X) (ys : List Y) (k n : ℕ)
    → ys ≡ map h (take n (drop k xs)) → text ≡ flat_map g (map h (take k xs)) ++ mid
    → mid ≡ flat_map g ys ++ rest → text ≡ flat_map g (map h (take (k + n) xs)) ++ rest
further_behind text mid rest g h xs ys k n are a b =
    both_behind text (flat_map g (map h (take k xs))) (flat_map g ys) mid rest a b
    ∙ ap (λ (l : List ℕ). l ++ rest) (sym (row-further g h xs ys k n are))

pub further_lacks : {X Y : Type 0} (text mid : List ℕ) (g : Y → List ℕ) (h : X → Y) (xs : List X) (ys : List Y) (k n : ℕ)
    → ys ≡ map h (take n (drop k xs)) → text ≡ flat_map g (map h (take k xs)) ++ mid
    → LacksPrefix mid (flat_map g ys) → LacksPrefix text (flat_map g (map h xs))
further_lacks text mid g h xs ys k n are a apart =
    let so_far : LacksPrefix text (flat_map g (map h (take (k + n) xs))) =
    subst (LacksPrefix text) (sym (row-further g h xs ys k n are))
    (not_second text (flat_map g (map h (take k xs))) (flat_map g ys) mid a apart) in
    subst (LacksPrefix text) (sym (row-rest g h xs (k + n)))
    (not_first text (flat_map g (map h (take (k + n) xs))) (flat_map g (map h (drop (k + n) xs))) so_far)

pub all_behind : {X Y : Type 0} (text rest : List ℕ) (g : Y → List ℕ) (h : X → Y) (xs : List X) (k : ℕ) → length xs ≤ k
    → text ≡ flat_map g (map h (take k xs)) ++ rest → text ≡ flat_map g (map h xs) ++ rest
all_behind {X} {Y} text rest g h xs k above a = subst (λ (ys : List X). text ≡ flat_map g (map h ys) ++ rest) (take_all k xs above) a

-- ---- the whole

pub is_whole : (text front rest : List ℕ) → text ≡ front ++ rest → rest ≡ [] → text ≡ front
is_whole text front rest a none = a ∙ ap (λ (l : List ℕ). front ++ l) none ∙ append-nil front

pub whole_has_no_rest : (text front rest : List ℕ) → text ≡ front ++ rest → text ≡ front → rest ≡ []
whole_has_no_rest text front rest a e = append_cancel_left front rest [] (sym a ∙ e ∙ sym (append-nil front))

pub not_whole : (text front : List ℕ) → LacksPrefix text front → text ≡ front → ⊥
not_whole text front apart e = apart [] (e ∙ sym (append-nil front))

-- ---- the last of some prefixes

pub then_match : {A : Type 0} (now : A → List ℕ) (text x y mid : List ℕ) (r : Option A) → text ≡ x ++ mid
    → MatchOption r (LacksPrefix mid y) (λ a. mid ≡ y ++ now a) → MatchOption r (LacksPrefix text (x ++ y)) (λ a. text ≡ (x ++ y) ++ now a)
then_match now text x y mid None a m = not_second text x y mid a m
then_match now text x y mid (Some r) a m = both_behind text x y mid (now r) a m
