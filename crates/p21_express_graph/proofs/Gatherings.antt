-- Numbers that are gathered, each once.
use Rattle.std.specs.Prelude.{◌≡◌, ◌≢◌, ℕ, zero, suc, ◌<◌, ◌≤◌, ◌⊎◌, ◌||◌, Bool, true, false, cond, not, List, [], ◌∷◌, ◌++◌, Some, None, length, slice_get, slice_index_or, slice_set, nat_eq, filter, map, Contains, refl, if◌then◌else◌}
use Rattle.std.specs.List.{list_any}
use Rattle.std.proofs.Common.{arith, ap, sym, ◌∙◌, subst, inl, inr, append_assoc, get_or}
use Rattle.std.proofs.lemmas.Bool.Decides.{Decides-eqb}
use Rattle.std.proofs.lemmas.Option.{slice_get-map, slice_get_read, slice_get_past}
use Rattle.std.proofs.lemmas.Grind.{get_or_default_zero}
use Rattle.std.specs.Option.{option_map}
use Rattle.std.proofs.lemmas.Bool.{cases_eq, eqb-true, ne_eqb}
use Rattle.std.proofs.lemmas.List.{get_or-set_other, get_or-set_same, map-append}
use Rattle.std.proofs.lemmas.List.Elements.{Contains-get_or}
use Rattle.p21_spec_basics.proofs.Members.{Contains-none, Contains-later, Contains-cases, Contains-found, Contains-at, Contains-mapped}
use Rattle.p21_spec_schema.specs.Order.{first_occurrences}
use Rattle.p21_express_graph.specs.Gathering.{add_first, add_firsts, HaveTheirPositions}
use Rattle.p21_express_graph.proofs.Walks.{snoc_cases}

pub eqb-same : (x : ℕ) → nat_eq x x ≡ true
eqb-same x = (Decides-eqb x x).1 refl

or-first : (a b : Bool) → a ≡ true → (a || b) ≡ true
or-first true b is = refl
or-first false b is = cc

or-later : (a b : Bool) → b ≡ true → (a || b) ≡ true
or-later true b is = refl
or-later false b is = is

pub among-any : (xs : List ℕ) (y : ℕ) → Contains xs y → list_any (nat_eq y) xs ≡ true
among-any [] y among = absurd (Contains-none y among)
among-any (x ∷ xs) y among = elim (Contains-cases x xs y among) [
  | inl h ↦ or-first (nat_eq y x) (list_any (nat_eq y) xs) (let P : ℕ → Type 0 = λ z. nat_eq y z ≡ true in subst P (sym h) (eqb-same y))
  | inr h ↦ or-later (nat_eq y x) (list_any (nat_eq y) xs) (among-any xs y h)
]

pub any-among : (xs : List ℕ) (y : ℕ) → list_any (nat_eq y) xs ≡ true → Contains xs y
any-among [] y is = cc
any-among (x ∷ xs) y is = cases (any-among xs y) (nat_eq y x) refl is
  where
    cases : (list_any (nat_eq y) xs ≡ true → Contains xs y) → (a : Bool) → nat_eq y x ≡ a → (a || list_any (nat_eq y) xs) ≡ true → Contains (x ∷ xs) y
    cases rest true same _ = (0, omega arith, sym (eqb-true y x same))
    cases rest false same more = Contains-later x xs y (rest more)

-- the number at its place says whether it is there
pub has-found : (places numbers : List ℕ) (x : ℕ) → slice_get numbers (slice_index_or places x 0) ≡ Some x → true ≡ list_any (nat_eq x) numbers
has-found places numbers x at = sym (among-any numbers x (Contains-found numbers (slice_index_or places x 0) x at))

pub has-none : (places numbers : List ℕ) (x : ℕ) → HaveTheirPositions places numbers → (slice_get numbers (slice_index_or places x 0) ≡ Some x → ⊥) → false ≡ list_any (nat_eq x) numbers
has-none places numbers x placed other = cases (list_any (nat_eq x) numbers) refl
  where
    cases : (b : Bool) → list_any (nat_eq x) numbers ≡ b → false ≡ b
    cases false _ = refl
    cases true is = let (k, at) = Contains-at numbers x (any-among numbers x is) in
        let P : ℕ → Type 0 = λ n. slice_get numbers n ≡ Some x in
        absurd (other (subst P (sym (placed k x at).0) at))

module _ {X : Type 0} (number : X → ℕ) (places : List ℕ) (all : List X) (x : ℕ) (placed : HaveTheirPositions places (map number all)) where
  -- what stands at the place of a number says whether the number is there
  pub has-some : (found : X) → slice_get all (slice_index_or places x 0) ≡ Some found → nat_eq (number found) x ≡ list_any (nat_eq x) (map number all)
  has-some found at = cases (nat_eq (number found) x) refl
    where
      is : slice_get (map number all) (slice_index_or places x 0) ≡ Some (number found)
      is = slice_get-map number all (slice_index_or places x 0) ∙ ap (option_map number) at

      cases : (b : Bool) → nat_eq (number found) x ≡ b → b ≡ list_any (nat_eq x) (map number all)
      cases true same = let e : number found ≡ x = eqb-true (number found) x same in has-found places (map number all) x (is ∙ ap Some e)
      cases false differ = has-none places (map number all) x placed (λ other.
          let e : number found ≡ x = (let f : Some (number found) ≡ Some x = sym is ∙ other in cc) in
          let t : true ≡ false = sym (eqb-same x) ∙ (let P : ℕ → Type 0 = λ z. nat_eq z x ≡ false in subst P e differ) in cc)

  pub has-nothing : slice_get all (slice_index_or places x 0) ≡ None → false ≡ list_any (nat_eq x) (map number all)
  has-nothing at = has-none places (map number all) x placed (λ other.
      let f : None ≡ Some x = sym (slice_get-map number all (slice_index_or places x 0) ∙ ap (option_map number) at) ∙ other in cc)

-- a new number has its place
pub placed-more : (places numbers : List ℕ) (y : ℕ) → HaveTheirPositions places numbers → false ≡ list_any (nat_eq y) numbers → y < length places → HaveTheirPositions (slice_set places y (length numbers)) (numbers ++ y ∷ [])
placed-more places numbers y placed new below k x at = elim (snoc_cases numbers y k x at) [
  | inl h ↦
      let other : x ≢ y = (λ same. let P : ℕ → Type 0 = λ z. Contains numbers z in let t : true ≡ false = sym (among-any numbers y (subst P same (Contains-found numbers k x h.0))) ∙ sym new in cc) in
      (get_or-set_other places y x (length numbers) 0 other ∙ (placed k x h.0).0, let below_x = (placed k x h.0).1 in let n = set_length places y (length numbers) in omega (arith, below_x, n))
  | inr h ↦
      let P : ℕ → Type 0 = λ z. (slice_index_or (slice_set places y (length numbers)) z 0 ≡ k) × (z < length (slice_set places y (length numbers))) in
      let n = set_length places y (length numbers) in
      subst P (sym h.1) (get_or-set_same places y (length numbers) 0 below ∙ sym h.0, omega (arith, below, n))
]
  where
    set_length : (xs : List ℕ) (i v : ℕ) → length (slice_set xs i v) ≡ length xs
    set_length [] i v = refl
    set_length (z ∷ xs) zero v = refl
    set_length (z ∷ xs) (suc i) v = ap suc (set_length xs i v)

-- what is added where it is new
pub add-new : (xs : List ℕ) (y : ℕ) → false ≡ list_any (nat_eq y) xs → add_first xs y ≡ xs ++ y ∷ []
add-new xs y new = let P : Bool → Type 0 = λ b. (if b then xs else xs ++ y ∷ []) ≡ xs ++ y ∷ [] in subst P new refl

-- and where it is there
pub add-old : (xs : List ℕ) (y : ℕ) → true ≡ list_any (nat_eq y) xs → add_first xs y ≡ xs
add-old xs y old = let P : Bool → Type 0 = λ b. (if b then xs else xs ++ y ∷ []) ≡ xs in subst P old refl

not-same : (x y : ℕ) → (nat_eq x y ≡ true) → not (nat_eq x y) ≡ false
not-same x y is = ap not is

filter-snoc-out : (test : ℕ → Bool) (xs : List ℕ) (y : ℕ) → test y ≡ false → filter test (xs ++ y ∷ []) ≡ filter test xs
filter-snoc-out test [] y out = let P : Bool → Type 0 = λ b. cond b (y ∷ []) [] ≡ [] in subst P (sym out) refl
filter-snoc-out test (x ∷ xs) y out = ap (λ zs. cond (test x) (x ∷ zs) zs) (filter-snoc-out test xs y out)

filter-snoc-in : (test : ℕ → Bool) (xs : List ℕ) (y : ℕ) → test y ≡ true → filter test (xs ++ y ∷ []) ≡ filter test xs ++ y ∷ []
filter-snoc-in test [] y kept = let P : Bool → Type 0 = λ b. cond b (y ∷ []) [] ≡ y ∷ [] in subst P (sym kept) refl
filter-snoc-in test (x ∷ xs) y kept = ap (λ zs. cond (test x) (x ∷ zs) zs) (filter-snoc-in test xs y kept) ∙ moved (test x) (filter test xs)
  where
    moved : (b : Bool) (zs : List ℕ) → cond b (x ∷ zs ++ y ∷ []) (zs ++ y ∷ []) ≡ cond b (x ∷ zs) zs ++ y ∷ []
    moved true zs = refl
    moved false zs = refl

-- the first occurrences, with one number more
firsts-more : (xs : List ℕ) (y : ℕ) → ((list_any (nat_eq y) xs ≡ true) × (first_occurrences (xs ++ y ∷ []) ≡ first_occurrences xs)) ⊎ ((list_any (nat_eq y) xs ≡ false) × (first_occurrences (xs ++ y ∷ []) ≡ first_occurrences xs ++ y ∷ []))
firsts-more [] y = inr (refl, refl)
firsts-more (x ∷ xs) y = elim (firsts-more xs y) [
  | inl h ↦ inl (or-later (nat_eq y x) (list_any (nat_eq y) xs) h.0, ap (λ zs. x ∷ filter (λ f. not (nat_eq x f)) zs) h.1)
  | inr h ↦ elim (cases_eq y x) [
    | inl same ↦ inl (
      or-first (nat_eq y x) (list_any (nat_eq y) xs) (let P : ℕ → Type 0 = λ z. nat_eq y z ≡ true in subst P same (eqb-same y)),
      ap (λ zs. x ∷ filter (λ f. not (nat_eq x f)) zs) h.1 ∙ ap (λ zs. x ∷ zs) (filter-snoc-out (λ f. not (nat_eq x f)) (first_occurrences xs) y (let P : ℕ → Type 0 = λ z. not (nat_eq x z) ≡ false in subst P (sym same) (not-same x x (eqb-same x)))),
    )
    | inr differ ↦ inr (
      none (nat_eq y x) (list_any (nat_eq y) xs) (ne_eqb y x differ) h.0,
      ap (λ zs. x ∷ filter (λ f. not (nat_eq x f)) zs) h.1 ∙ ap (λ zs. x ∷ zs) (filter-snoc-in (λ f. not (nat_eq x f)) (first_occurrences xs) y (ap not (ne_eqb x y (λ e. differ (sym e))))),
    )
  ]
]
  where
    none : (a b : Bool) → a ≡ false → b ≡ false → (a || b) ≡ false
    none true b first second = cc
    none false b first second = second

-- a number is among first occurrences just where it is among all
firsts-any : (xs : List ℕ) (y : ℕ) → list_any (nat_eq y) (first_occurrences xs) ≡ list_any (nat_eq y) xs
firsts-any [] y = refl
firsts-any (x ∷ xs) y = cases (firsts-any xs y) (nat_eq y x) refl
  where
    filtered : (zs : List ℕ) → nat_eq y x ≡ false → list_any (nat_eq y) (filter (λ f. not (nat_eq x f)) zs) ≡ list_any (nat_eq y) zs
    filtered [] differ = refl
    filtered (z ∷ zs) differ = by (nat_eq x z) refl (filtered zs differ)
      where
        by : (b : Bool) → nat_eq x z ≡ b → list_any (nat_eq y) (filter (λ f. not (nat_eq x f)) zs) ≡ list_any (nat_eq y) zs → list_any (nat_eq y) (cond (not b) (z ∷ filter (λ f. not (nat_eq x f)) zs) (filter (λ f. not (nat_eq x f)) zs)) ≡ list_any (nat_eq y) (z ∷ zs)
        by true same rest = let P : ℕ → Type 0 = λ w. list_any (nat_eq y) (filter (λ f. not (nat_eq x f)) zs) ≡ (nat_eq y w || list_any (nat_eq y) zs) in
            subst P (eqb-true x z same) (let Q : Bool → Type 0 = λ b. list_any (nat_eq y) (filter (λ f. not (nat_eq x f)) zs) ≡ (b || list_any (nat_eq y) zs) in subst Q (sym differ) rest)
        by false same rest = ap (λ b. nat_eq y z || b) rest

    cases : list_any (nat_eq y) (first_occurrences xs) ≡ list_any (nat_eq y) xs → (b : Bool) → nat_eq y x ≡ b → (nat_eq y x || list_any (nat_eq y) (filter (λ f. not (nat_eq x f)) (first_occurrences xs))) ≡ (nat_eq y x || list_any (nat_eq y) xs)
    cases rest true is = or-first (nat_eq y x) (list_any (nat_eq y) (filter (λ f. not (nat_eq x f)) (first_occurrences xs))) is ∙ sym (or-first (nat_eq y x) (list_any (nat_eq y) xs) is)
    cases rest false is = ap (λ b. nat_eq y x || b) (filtered (first_occurrences xs) is ∙ rest)

-- first occurrences are gathered one by one
pub add-firsts : (xs : List ℕ) (y : ℕ) → add_first (first_occurrences xs) y ≡ first_occurrences (xs ++ y ∷ [])
add-firsts xs y = elim (firsts-more xs y) [
  | inl h ↦ add-old (first_occurrences xs) y (sym (firsts-any xs y ∙ h.0)) ∙ sym h.1
  | inr h ↦ add-new (first_occurrences xs) y (sym (firsts-any xs y ∙ h.0)) ∙ sym h.1
]

pub gathers : (xs ys : List ℕ) → add_firsts (first_occurrences xs) ys ≡ first_occurrences (xs ++ ys)
gathers xs [] = ap first_occurrences (sym (append_nil xs))
  where
    append_nil : (zs : List ℕ) → zs ++ [] ≡ zs
    append_nil [] = refl
    append_nil (z ∷ zs) = ap (λ ws. z ∷ ws) (append_nil zs)
gathers xs (y ∷ ys) = ap (λ zs. add_firsts zs ys) (add-firsts xs y) ∙ gathers (xs ++ y ∷ []) ys ∙ ap first_occurrences (append_assoc xs (y ∷ []) ys)

module _ {X : Type 0} (all deref : List X) (places : List ℕ) (x at : ℕ) (same : deref ≡ all) (at_is : at ≡ get_or places x at) (below : x < length places) where
  place-is : at ≡ slice_index_or places x 0
  place-is = at_is ∙ get_or_default_zero places x at below

  -- what is read at the place of a number
  pub read-some : (found : X) → at < length deref → found ≡ get_or deref at found → slice_get all (slice_index_or places x 0) ≡ Some found
  read-some found within found_is =
      let P : List X → Type 0 = λ xs. slice_get xs at ≡ Some found in
      let Q : ℕ → Type 0 = λ n. slice_get all n ≡ Some found in
      subst Q place-is (subst P same (slice_get_read deref (length deref) at found refl within found_is))

  pub read-none : length deref ≤ at → slice_get all (slice_index_or places x 0) ≡ None
  read-none past =
      let P : List X → Type 0 = λ xs. slice_get xs at ≡ None in
      let Q : ℕ → Type 0 = λ n. slice_get all n ≡ None in
      subst Q place-is (subst P same (slice_get_past deref at past))

pub mapped-length : {X Y : Type 0} (f : X → Y) (xs : List X) → length (map f xs) ≡ length xs
mapped-length f [] = refl
mapped-length f (x ∷ xs) = ap suc (mapped-length f xs)

pub map-map : {X Y Z : Type 0} (f : Y → Z) (g : X → Y) (xs : List X) → map (λ x. f (g x)) xs ≡ map f (map g xs)
map-map f g [] = refl
map-map f g (x ∷ xs) = ap (λ zs. f (g x) ∷ zs) (map-map f g xs)

-- a number more that is stored
pub stored-more : {X : Type 0} (number : X → ℕ) (places : List ℕ) (all after : List X) (x : X) (n : ℕ) → HaveTheirPositions places (map number all) → false ≡ list_any (nat_eq (number x)) (map number all) → number x < length places
    → after ≡ all ++ x ∷ [] → n ≡ length all → HaveTheirPositions (slice_set places (number x) n) (map number after)
stored-more {X} number places all after x n placed new below after_is n_is =
    let P : ℕ → Type 0 = λ m. HaveTheirPositions (slice_set places (number x) m) (map number all ++ number x ∷ []) in
    let Q : List ℕ → Type 0 = λ xs. HaveTheirPositions (slice_set places (number x) n) xs in
    subst Q (sym (ap (map number) after_is ∙ map-append number all (x ∷ []))) (subst P (mapped-length number all ∙ sym n_is) (placed-more places (map number all) (number x) placed new below))

-- each of some is one of those that are numbered
pub numbered-at : {X : Type 0} (number : X → ℕ) (xs : List X) (k : ℕ) (d : X) → k < length xs → Contains (map number xs) (number (get_or xs k d))
numbered-at number xs k d below = Contains-mapped number xs (get_or xs k d) (Contains-get_or xs k d below)
