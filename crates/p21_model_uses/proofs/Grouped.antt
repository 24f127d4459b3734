-- The rows of one name stand side by side.
use Rattle.std.specs.Prelude.{◌≡◌, ◌⊎◌, ℕ, zero, suc, ◌+◌, ◌-◌, ◌<◌, ◌≤◌, true, false, List, [], ◌∷◌, ◌++◌, length, map, take, drop, leb, Contains, Option, Some, None, IfSome, refl}
use Rattle.std.specs.List.{AllByRecursion as Each}
use Rattle.std.specs.List.Sorted.{IsPartitionPoint, IsStrictlySortedBy}
use Rattle.std.specs.Cmp.{nat_cmp_is, ranks}
use Rattle.std.specs.Ordering.{MatchOrdering, is_le, is_lt, nat_cmp, ordering_then}
use Rattle.std.proofs.Common.{Ordering, Less, Equal, Greater, arith, ap, sym, subst, ◌∙◌, get_or, append-nil, inl, inr, true≢false}
use Rattle.std.proofs.lemmas.Bool.{leb-false, leb-true}
use Rattle.std.proofs.lemmas.List.{get_or-drop, get_or_default, length-map, take_all, take_more}
use Rattle.std.proofs.lemmas.List.Concat.{flat_map-append}
use Rattle.p21_spec_basics.proofs.Members.{Each-append, Each-weaker, flat_map-same, Each-member}
use Rattle.p21_model_uses.proofs.UseOrder.{names-rise}
use Rattle.p21_model_uses.specs.Tables.{AreGroupsOf, IsTable, IsWithin, between, by_name, told_by, user_and_place, use_of, uses_in, uses_to}
use Rattle.p21_model_uses.specs.UseRows.{AreInOrder, UseRow}
use Rattle.p21_model_uses.specs.declared.groups.Used.{Used}
use Rattle.p21_model_uses.specs.declared.references.Reference.{Reference}

take-none : {X : Type 0} (n : ℕ) → ◌≡◌ {A = List X} (take n []) []
take-none zero = refl
take-none (suc n) = refl

-- what stands before here, and what stands from here to there
joined : {X : Type 0} (xs : List X) (a b : ℕ) → a ≤ b → take a xs ++ take (b - a) (drop a xs) ≡ take b xs
joined [] zero b up = take-none (b - 0) ∙ sym (take-none b)
joined [] (suc a) b up = take-none (b - suc a) ∙ sym (take-none b)
joined (x ∷ xs) zero b up = let same : b - 0 ≡ b = omega arith in ap (λ (n : ℕ). take n (x ∷ xs)) same
joined (x ∷ xs) (suc a) zero up = absurd (omega (arith, up))
joined {X} (x ∷ xs) (suc a) (suc b) up =
    let less : suc b - suc a ≡ b - a = omega arith in
    ap (λ (ys : List X). x ∷ ys) (ap (λ (n : ℕ). take a xs ++ take n (drop a xs)) less ∙ joined xs a b (omega (arith, up)))

-- a name that is above all others goes to the end
rises-more : (us : List Used) (v : Used) → Each (λ (u : Used). u.name < v.name) us → IsStrictlySortedBy by_name us
    → IsStrictlySortedBy by_name (us ++ v ∷ [])
unfolding IsStrictlySortedBy
rises-more [] v below rises = (tt, tt)
rises-more (u ∷ us) v below rises = (
  Each-append (λ (w : Used). by_name u w ≡ Less) us (v ∷ []) rises.0 (sym (nat_cmp_is u.name v.name Less below.0), tt),
  rises-more us v
      below.1 rises.1,
)

pub no-groups : (rows : List UseRow) → AreGroupsOf rows 0 []
unfolding IsStrictlySortedBy
no-groups rows = record { are = refl; ranges = tt; named = tt; below = tt; rises = tt }

-- the rows of a name end behind its first one
pub group-ends : (rows : List UseRow) (at end : ℕ) (d : UseRow) (name : ℕ) → name ≡ (get_or rows at d).0 → at < length rows
    → IsPartitionPoint (λ (u : UseRow). leb u.0 name ≡ true) (λ (u : UseRow). leb u.0 name ≡ false) rows end → at < end
group-ends rows at end d name is inside point = elim (either at end) [
  | inl up ↦ up
  | inr down ↦ (let over = leb-false _ _ (point.1 at d down inside) in absurd (omega (arith, over, is)))
]
  where
    either : (x y : ℕ) → (x < y) ⊎ (y ≤ x)
    either x y = grind arith

pub one-more-group : (rows : List UseRow) (at end : ℕ) (d : UseRow) (first : ℕ) (used : List Used) (group : Used) → AreInOrder rows
    → at < length rows → end ≤ length rows → first ≡ (get_or rows at d).0
    → IsPartitionPoint (λ (u : UseRow). leb u.0 first ≡ true) (λ (u : UseRow). leb u.0 first ≡ false) rows end
    → group.name ≡ first → group.start ≡ at → group.end ≡ end → AreGroupsOf rows at used → AreGroupsOf rows end (used ++ group ∷ [])
one-more-group rows at end d first used group order inside within is_first point named_so start end_is h = record {
  are = flat_map-append (λ (u : Used). between u.start u.end rows) used (group ∷ [])
      ∙ ap (λ (us : List UseRow). us ++ (between group.start group.end rows ++ [])) h.are
      ∙ ap (λ (us : List UseRow). take at rows ++ us) (append-nil (between group.start group.end rows)
      ∙ ap (λ n. take (group.end - n) (drop n rows)) start ∙ ap (λ n. take (n - at) (drop at rows)) end_is)
      ∙ joined rows at end (omega (arith, up));
  ranges = Each-append Reaches used (group ∷ []) (Each-weaker (λ (u : Used). (u.start ≤ u.end) × (u.end ≤ at)) Reaches
      (λ u r. (r.0, omega (arith, r.1, up))) used h.ranges) ((omega (arith, start, end_is, up), omega (arith, end_is)), tt);
  named = Each-append IsOf used (group ∷ []) h.named (own, tt);
  below = Each-append IsBelow used (group ∷ []) (Each-weaker
      (λ (u : Used). (k : ℕ) (e : UseRow) → at ≤ k → k < length rows → u.name < (get_or rows k e).0) IsBelow
      (λ u b k e from under. b k e (omega (arith, from, up)) under) used h.below) (above, tt);
  rises = rises-more used group (Each-weaker (λ (u : Used). (k : ℕ) (e : UseRow) → at ≤ k → k < length rows → u.name < (get_or rows k e).0)
      (λ (u : Used). u.name < group.name) (λ u b. let low = b at d (omega arith) inside in omega (arith, low, name)) used h.below) h.rises;
}
  where
    up : at < end
    up = group-ends rows at end d first is_first inside point

    name : group.name ≡ (get_or rows at d).0
    name = named_so ∙ is_first

    Reaches : Used → Type 0
    Reaches u = (u.start ≤ u.end) × (u.end ≤ end)

    IsOf : Used → Type 0
    IsOf u = (k : ℕ) (e : UseRow) → u.start ≤ k → k < u.end → (get_or rows k e).0 ≡ u.name

    IsBelow : Used → Type 0
    IsBelow u = (k : ℕ) (e : UseRow) → end ≤ k → k < length rows → u.name < (get_or rows k e).0

    same : (k : ℕ) (e : UseRow) → k < length rows → get_or rows k e ≡ get_or rows k d
    same k e low = get_or_default rows k e d low

    own : IsOf group
    own k e from to =
        let reached : k < length rows = omega (arith, to, end_is, within) in
        let least : (get_or rows at d).0 ≤ (get_or rows k d).0 = names-rise rows order at k d (omega (arith, from, start)) reached in
        let most : (get_or rows k d).0 ≤ first = leb-true _ _ (point.0 k d (omega arith) (omega (arith, to, end_is))) in
        let is : (get_or rows k d).0 ≡ (get_or rows at d).0 = omega (arith, least, most, is_first) in
        ap (λ (u : UseRow). u.0) (same k e reached) ∙ is ∙ sym name

    above : IsBelow group
    above k e from low = let lower : first < (get_or rows k e).0 = leb-false _ _ (point.1 k e from low) in omega (arith, lower, named_so)

-- what compares as equal is the same
cmp-same : (x y : ℕ) → nat_cmp x y ≡ Equal → x ≡ y
cmp-same x y same = subst (λ (o : Ordering). MatchOrdering o (x < y) (x ≡ y) (y < x)) same (ranks x y)

both-equal : (o p : Ordering) → ordering_then o p ≡ Equal → (o ≡ Equal) × (p ≡ Equal)
both-equal Equal p same = (refl, same)
both-equal Less p same = absurd (true≢false (ap is_lt same))
both-equal Greater p same = absurd (true≢false (sym (ap is_le same)))

abbrev rest-of : {X : Type 0} → List X → List X
rest-of [] = []
rest-of (x ∷ xs) = xs

abbrev first-of : {X : Type 0} → X → List X → X
first-of d [] = d
first-of d (x ∷ xs) = x

-- what stands behind the first of both is told too
told-dropped : (users : List ℕ) (places : List (ℕ × ℕ)) (a : ℕ) (references : List Reference) (rows : List UseRow)
    → map (told_by users places) references ≡ map user_and_place rows
    → map (told_by users places) (drop a references) ≡ map user_and_place (drop a rows)
told-dropped users places zero references rows told = told
told-dropped users places (suc a) [] [] told = told
told-dropped users places (suc a) [] (u ∷ rows) told = absurd (omega (arith, ap length told))
told-dropped users places (suc a) (r ∷ references) [] told = absurd (omega (arith, ap length told))
told-dropped users places (suc a) (r ∷ references) (u ∷ rows) told = told-dropped users places a references rows (ap rest-of told)

-- the references of rows of one name tell these rows
told-first : (users : List ℕ) (places : List (ℕ × ℕ)) (name n : ℕ) (references : List Reference) (rows : List UseRow)
    → map (told_by users places) references ≡ map user_and_place rows
    → ((k : ℕ) (d : UseRow) → k < n → k < length rows → (get_or rows k d).0 ≡ name)
    → map (use_of users places name) (take n references) ≡ take n rows
told-first users places name zero references rows told named = refl
told-first users places name (suc n) [] [] told named = refl
told-first users places name (suc n) [] (u ∷ rows) told named = absurd (omega (arith, ap length told))
told-first users places name (suc n) (r ∷ references) [] told named = absurd (omega (arith, ap length told))
told-first users places name (suc n) (r ∷ references) (u ∷ rows) told named =
    let front : told_by users places r ≡ user_and_place u = ap (first-of (user_and_place u)) told in
    let is : use_of users places name r ≡ u = ap (λ (t : ℕ × ℕ × ℕ). (name, t.0, t.1, t.2)) front
    ∙ ap (λ (m : ℕ). (m, u.1, u.2, u.3)) (sym (named 0 u (omega arith) (omega arith))) in
    let more : map (use_of users places name) (take n references) ≡ take n rows =
    told-first users places name n references rows (ap rest-of told)
    (λ k d low inside. named (suc k) d (omega (arith, low)) (omega (arith, inside))) in
    ap (λ (v : UseRow). v ∷ map (use_of users places name) (take n references)) is ∙ ap (λ (us : List UseRow). u ∷ us) more

map-push : {X Y : Type 0} (f : X → Y) (xs : List X) (x : X) → map f (xs ++ x ∷ []) ≡ map f xs ++ f x ∷ []
map-push f [] x = refl
map-push {Y = Y} f (y ∷ xs) x = ap (λ (zs : List Y). f y ∷ zs) (map-push f xs x)

pub map-more : {X Y : Type 0} (f : X → Y) (xs : List X) (k : ℕ) (d x : X) → k < length xs → x ≡ get_or xs k d
    → map f (take k xs) ++ f x ∷ [] ≡ map f (take (k + 1) xs)
map-more {X} {Y} f xs k d x inside is =
    ap (λ (y : Y). map f (take k xs) ++ y ∷ []) (ap f is) ∙ sym (map-push f (take k xs) (get_or xs k d))
    ∙ ap (map f) (sym (take_more xs k d inside))

-- the reference of one more row
pub one-more-told : (users : List ℕ) (places : List (ℕ × ℕ)) (references : List Reference) (r : Reference) (rows : List UseRow) (k : ℕ)
    (d row : UseRow) → map (told_by users places) references ≡ map user_and_place (take k rows)
    → told_by users places r ≡ user_and_place row → k < length rows → row ≡ get_or rows k d
    → map (told_by users places) (references ++ r ∷ []) ≡ map user_and_place (take (k + 1) rows)
one-more-told users places references r rows k d row told same inside is =
    map-push (told_by users places) references r ∙ ap (λ (ts : List (ℕ × ℕ × ℕ)). ts ++ told_by users places r ∷ []) told
    ∙ ap (λ (t : ℕ × ℕ × ℕ). map user_and_place (take k rows) ++ t ∷ []) (same ∙ ap user_and_place is)
    ∙ sym (map-push user_and_place (take k rows) (get_or rows k d)) ∙ ap (map user_and_place) (sym (take_more rows k d inside))

-- all groups together tell all rows
pub told-groups : (users : List ℕ) (places : List (ℕ × ℕ)) (references : List Reference) (rows : List UseRow) (used : List Used)
    → map (told_by users places) references ≡ map user_and_place rows
    → AreGroupsOf rows (length rows) used → uses_in users places references used ≡ rows
told-groups users places references rows used told h =
    flat_map-same (uses_to users places references) (λ (u : Used). between u.start u.end rows) used each ∙ h.are
    ∙ take_all (length rows) rows (omega arith)
  where
    each : (u : Used) → Contains used u → uses_to users places references u ≡ between u.start u.end rows
    each u among =
        let (up, low) = Each-member (λ (v : Used). (v.start ≤ v.end) × (v.end ≤ length rows)) used u h.ranges among in
        let named = Each-member (λ (v : Used). (k : ℕ) (d : UseRow) → v.start ≤ k → k < v.end → (get_or rows k d).0 ≡ v.name) used u h.named
        among in
        told-first users places u.name (u.end - u.start) (drop u.start references) (drop u.start rows)
        (told-dropped users places u.start references rows told)
        (λ k d below inside. ap (λ (v : UseRow). v.0) (get_or-drop u.start rows k d)
        ∙ named (u.start + k) d (omega arith) (omega (arith, below, up)))

pub is-table : (users : List ℕ) (places : List (ℕ × ℕ)) (references : List Reference) (rows : List UseRow) (used : List Used)
    → map (told_by users places) references ≡ map user_and_place rows
    → Each (IsWithin users places) references → AreGroupsOf rows (length rows) used → IsTable users places references used
is-table users places references rows used told within h = record {
  within = within;
  ranges = Each-weaker (λ (u : Used). (u.start ≤ u.end) × (u.end ≤ length rows))
      (λ (u : Used). (u.start ≤ u.end) × (u.end ≤ length references)) (λ u r. (r.0, omega (arith, r.1, as_many))) used h.ranges;
  rises = h.rises;
}
  where
    as_many : length references ≡ length rows
    as_many = sym (length-map references (told_by users places)) ∙ ap length told ∙ length-map rows user_and_place

-- a number that is no other than where something stands reaches it
pub user-at : (users : List ℕ) (at user : ℕ) (r : Option ℕ) → IfSome r (λ n. n ≡ at) → at < length users
    → nat_cmp (get_or users at 0) user ≡ Equal → IfSome r (λ n. (n < length users) × (get_or users n 0 ≡ user))
user-at users at user None is inside same = is
user-at users at user (Some n) is inside same = (
  omega (arith, is, inside),
  ap (λ k. get_or users k 0) is
      ∙ cmp-same (get_or users at 0) user same,
)

pub place-at : (places : List (ℕ × ℕ)) (at : ℕ) (place : ℕ × ℕ) (r : Option ℕ) → IfSome r (λ n. n ≡ at) → at < length places
    → ordering_then (nat_cmp (get_or places at (0, 0)).0 place.0) (nat_cmp (get_or places at (0, 0)).1 place.1) ≡ Equal
    → IfSome r (λ n. (n < length places) × (get_or places n (0, 0) ≡ place))
place-at places at place None is inside same = is
place-at places at place (Some n) is inside same =
    let there = get_or places at (0, 0) in
    let (front, back) = both-equal (nat_cmp there.0 place.0) (nat_cmp there.1 place.1) same in (
      omega (arith, is, inside),
      ap (λ k. get_or places k (0, 0)) is ∙ ap (λ (k : ℕ). (k, there.1)) (cmp-same there.0 place.0 front)
          ∙ ap (λ (k : ℕ). (place.0, k)) (cmp-same there.1 place.1 back),
    )
