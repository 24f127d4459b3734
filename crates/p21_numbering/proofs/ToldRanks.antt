-- Ranks behind a round, counted over the keys that there are.
use Rattle.std.specs.Prelude.{◌≡◌, ◌⊎◌, ℕ, ◌+◌, ◌-◌, ◌<◌, ◌≤◌, Bool, true, false, cond, List, [], ◌∷◌, length, map, filter, nat_eq, ltb, leb, ◌&&◌, Contains, refl}
use Rattle.std.specs.List.{range_with_len}
use Rattle.std.specs.Cmp.{nat_cmp_is}
use Rattle.std.specs.Cmp.Lexicographic.{slice_cmp}
use Rattle.std.specs.Ordering.{nat_cmp, is_lt, ordering_then}
use Rattle.std.proofs.Common.{Ordering, Less, Equal, Greater, arith, ap, sym, subst, ◌∙◌, inl, inr, get_or, true≢false}
use Rattle.std.proofs.lemmas.Bool.{eqb-true, eq-eqb}
use Rattle.std.proofs.lemmas.Bool.Decides.{nat_tests}
use Rattle.p21_spec_basics.proofs.Members.{Contains-none, Contains-first, Contains-later, Contains-cases}
use Rattle.p21_spec_file.specs.Sorting.{is_below, sort_texts}
use Rattle.p21_spec_laws.proofs.Sorting.{below-across, below-itself, below-not_back}
use Rattle.p21_spec_numbering.specs.Graph.{how_many}
use Rattle.p21_spec_numbering.proofs.Lists.{count-agree, count-mapped}
use Rattle.p21_numbering.specs.Arrays.{AreCounted, rank_at}
use Rattle.p21_numbering.specs.Keyed.{is_keyed, told_rank, IsTellable}
use Rattle.p21_numbering.specs.Rows.{rank_among}
use Rattle.p21_numbering.proofs.Counts.{Contains-range, range-below, some-counted}
use Rattle.p21_numbering.proofs.PartSizes.{count-bound}
use Rattle.p21_numbering.proofs.RankedRows.{rank-sorted}
use Rattle.p21_numbering.proofs.Telling.{rank-at}
use Rattle.std.proofs.lemmas.List.FromFn.{fill_by_all, length-range_with_len}

-- ---- counts

-- four tests that pass as often in pairs
count-pairs : {X : Type 0} (p q s t : X → Bool) (xs : List X)
    → ((x : X) → Contains xs x → cond (p x) 1 0 + cond (q x) 1 0 ≡ cond (s x) 1 0 + cond (t x) 1 0)
    → how_many p xs + how_many q xs ≡ how_many s xs + how_many t xs
count-pairs p q s t [] same = refl
count-pairs p q s t (x ∷ xs) same =
    let first = same x (Contains-first x xs) in
    let rest = count-pairs p q s t xs (λ y among. same y (Contains-later x xs y among)) in
    omega (arith, first, rest)

-- what passes one test passes the other
count-most : {X : Type 0} (p q : X → Bool) (xs : List X) → ((x : X) → p x ≡ true → q x ≡ true) → how_many p xs ≤ how_many q xs
count-most p q [] more = omega arith
count-most p q (x ∷ xs) more = by_tests (p x) (q x) (more x) (count-most p q xs more)
  where
    by_tests : (b d : Bool) → (b ≡ true → d ≡ true) → how_many p xs ≤ how_many q xs
        → cond b 1 0 + how_many p xs ≤ cond d 1 0 + how_many q xs
    by_tests false false h rest = omega (arith, rest)
    by_tests false true h rest = omega (arith, rest)
    by_tests true true h rest = omega (arith, rest)
    by_tests true false h rest = absurd (true≢false (sym (h refl)))

-- and one passes the other alone
count-less : {X : Type 0} (p q : X → Bool) (xs : List X) → ((x : X) → p x ≡ true → q x ≡ true) → (x : X) → Contains xs x → p x ≡ false
    → q x ≡ true → how_many p xs < how_many q xs
count-less p q [] more x among fail pass = absurd (Contains-none x among)
count-less {X} p q (y ∷ ys) more x among fail pass = elim (Contains-cases y ys x among) [
  | inl same ↦ (
      let P : X → Type 0 = λ z. p z ≡ false in
      let Q : X → Type 0 = λ z. q z ≡ true in
      let none : ◌≡◌ {A = ℕ} (cond (p y) 1 0) 0 = ap (λ (b : Bool). cond b 1 0) (subst P (sym same) fail) in
      let one : ◌≡◌ {A = ℕ} (cond (q y) 1 0) 1 = ap (λ (b : Bool). cond b 1 0) (subst Q (sym same) pass) in
      let rest = count-most p q ys more in
      omega (arith, none, one, rest))
  | inr later ↦ (
      let first = count-most p q (y ∷ []) more in
      let rest = count-less p q ys more x later fail pass in
      omega (arith, first, rest))
]

count-filtered : {X : Type 0} (p test : X → Bool) (xs : List X) → how_many p (filter test xs) ≡ how_many (λ x. test x && p x) xs
count-filtered p test [] = refl
count-filtered {X} p test (x ∷ xs) = by_test (test x) (count-filtered p test xs)
  where
    by_test : (b : Bool) → how_many p (filter test xs) ≡ how_many (λ y. test y && p y) xs
        → how_many p (cond b (x ∷ filter test xs) (filter test xs)) ≡ cond (b && p x) 1 0 + how_many (λ y. test y && p y) xs
    by_test true rest = ap (λ k. cond (p x) 1 0 + k) rest
    by_test false rest = omega (arith, rest)

-- ---- rows that begin with numbers

three : (i j : ℕ) → (i < j) ⊎ ((i ≡ j) ⊎ (j < i))
three i j = grind arith

begins : (a b : ℕ) (xs ys : List ℕ) (o : Ordering) → nat_cmp a b ≡ o
    → is_below (a ∷ xs) (b ∷ ys) ≡ is_lt (ordering_then o (slice_cmp nat_cmp xs ys))
begins a b xs ys o is = ap (λ (r : Ordering). is_lt (ordering_then r (slice_cmp nat_cmp xs ys))) is

no-less : (xs : List ℕ) → is_lt (slice_cmp nat_cmp xs []) ≡ false
no-less [] = refl
no-less (x ∷ xs) = refl

ltb-low : (a b : ℕ) → a < b → ltb a b ≡ true
ltb-low a b low = grind (arith, nat_tests)

ltb-high : (a b : ℕ) → b ≤ a → ltb a b ≡ false
ltb-high a b high = grind (arith, nat_tests)

leb-low : (a b : ℕ) → a ≤ b → leb a b ≡ true
leb-low a b low = grind (arith, nat_tests)

leb-high : (a b : ℕ) → b < a → leb a b ≡ false
leb-high a b high = grind (arith, nat_tests)

-- below a row of one number
below-single : (a b : ℕ) (xs : List ℕ) → is_below (a ∷ xs) (b ∷ []) ≡ ltb a b
below-single a b xs = elim (three a b) [
  | inl low ↦ begins a b xs [] Less (sym (nat_cmp_is a b Less low)) ∙ sym (ltb-low a b low)
  | inr other ↦ elim other [
    | inl same ↦ begins a b xs [] Equal (sym (nat_cmp_is a b Equal same)) ∙ no-less xs ∙ sym (ltb-high a b (omega (arith, same)))
    | inr high ↦ begins a b xs [] Greater (sym (nat_cmp_is a b Greater high)) ∙ sym (ltb-high a b (omega (arith, high)))
  ]
]

-- a row of one number below one that goes on
single-below : (a b y : ℕ) (ys : List ℕ) → is_below (a ∷ []) (b ∷ y ∷ ys) ≡ leb a b
single-below a b y ys = elim (three a b) [
  | inl low ↦ begins a b [] (y ∷ ys) Less (sym (nat_cmp_is a b Less low)) ∙ sym (leb-low a b (omega (arith, low)))
  | inr other ↦ elim other [
    | inl same ↦ begins a b [] (y ∷ ys) Equal (sym (nat_cmp_is a b Equal same)) ∙ sym (leb-low a b (omega (arith, same)))
    | inr high ↦ begins a b [] (y ∷ ys) Greater (sym (nat_cmp_is a b Greater high)) ∙ sym (leb-high a b high)
  ]
]

next-lower : (a b : ℕ) → ltb a (b + 1) ≡ leb a b
next-lower a b = grind (arith, nat_tests)

-- ---- ranks by rows are counted

module _ (count : ℕ) (at : ℕ → List ℕ) where
  abbrev row_rank : ℕ → ℕ
  row_rank n = how_many (λ m. is_below (at m) (at n)) (range_with_len 0 count)

  below-through : (m n k : ℕ) → is_below (at m) (at n) ≡ true → is_below (at k) (at m) ≡ true → is_below (at k) (at n) ≡ true
  below-through m n k low lower = by_test (is_below (at k) (at n)) refl
    where
      by_test : (b : Bool) → is_below (at k) (at n) ≡ b → is_below (at k) (at n) ≡ true
      by_test true e = e
      by_test false e = absurd (true≢false (sym (below-across (at k) (at n) (at m) lower e) ∙ below-not_back (at m) (at n) low))

  ranks-tell : (m n : ℕ) → m < count → ltb (row_rank m) (row_rank n) ≡ is_below (at m) (at n)
  ranks-tell m n low = by_test (is_below (at m) (at n)) refl
    where
      by_test : (b : Bool) → is_below (at m) (at n) ≡ b → ltb (row_rank m) (row_rank n) ≡ is_below (at m) (at n)
      by_test true e =
          let less : row_rank m < row_rank n = count-less (λ k. is_below (at k) (at m)) (λ k. is_below (at k) (at n))
          (range_with_len 0 count) (λ k lower. below-through m n k e lower) m (Contains-range count m low) (below-itself (at m)) e in
          ltb-low (row_rank m) (row_rank n) less ∙ sym e
      by_test false e =
          let most : row_rank n ≤ row_rank m = count-most (λ k. is_below (at k) (at n)) (λ k. is_below (at k) (at m))
          (range_with_len 0 count) (λ k lower. not-lower k lower) in
          ltb-high (row_rank m) (row_rank n) most ∙ sym e
        where
          not-lower : (k : ℕ) → is_below (at k) (at n) ≡ true → is_below (at k) (at m) ≡ true
          not-lower k lower = by_test_ (is_below (at k) (at m)) refl
            where
              by_test_ : (b : Bool) → is_below (at k) (at m) ≡ b → is_below (at k) (at m) ≡ true
              by_test_ true f = f
              by_test_ false f = absurd (true≢false (sym (below-across (at k) (at m) (at n) lower f) ∙ e))

  pub ranks-counted : (rank : ℕ → ℕ) → ((n : ℕ) → n < count → rank n ≡ row_rank n) → AreCounted count rank
  ranks-counted rank are n low =
      count-agree (λ m. ltb (rank m) (rank n)) (λ m. is_below (at m) (at n)) (range_with_len 0 count)
      (λ m among. let within = range-below count m among in
      ap (λ k. ltb k (rank n)) (are m within) ∙ ap (ltb (row_rank m)) (are n low) ∙ ranks-tell m n within)
      ∙ sym (are n low)

-- the ranks of rows are counted
pub rows-counted : (rows : List (List ℕ)) (ranks : List ℕ) → ranks ≡ map (rank_among rows) rows → AreCounted (length rows) (rank_at ranks)
rows-counted rows ranks are =
    let row : ℕ → List ℕ = λ m. get_or rows m [] in
    let all : rows ≡ map row (range_with_len 0 (length rows)) = fill_by_all row rows (length rows) [] refl (λ k within. refl) in
    ranks-counted (length rows) row (rank_at ranks) (λ n low.
    rank-at rows ranks are n low
    ∙ ap (how_many (λ (other : List ℕ). is_below other (row n))) all
    ∙ count-mapped (λ (other : List ℕ). is_below other (row n)) row (range_with_len 0 (length rows)))

-- ---- ranks by the keys that there are

-- the key, or the rank alone
abbrev pub whole : ℕ → List ℕ → List ℕ
whole rank [] = rank ∷ []
whole rank (k ∷ ks) = k ∷ ks

-- none, or the rank and more
abbrev pub IsHeaded : ℕ → List ℕ → Type 0
IsHeaded rank [] = Unit {0}
IsHeaded rank (k ∷ ks) = (k ≡ rank) × (0 < length ks)

module _ (count : ℕ) (rank : ℕ → ℕ) (key : ℕ → List ℕ) (headed : (n : ℕ) → n < count → IsHeaded (rank n) (key n))
    (counted : AreCounted count rank) where
  abbrev keys : List (List ℕ)
  keys = filter is_keyed (map key (range_with_len 0 count))

  many-below : (row : List ℕ) → rank_among keys row ≡ how_many (λ m. is_keyed (key m) && is_below (key m) row) (range_with_len 0 count)
  many-below row =
      count-filtered (λ (other : List ℕ). is_below other row) is_keyed (map key (range_with_len 0 count))
      ∙ count-mapped (λ (x : List ℕ). is_keyed x && is_below x row) key (range_with_len 0 count)

  -- one below the row, one below the next rank
  one-below : (a b : ℕ) (x ys : List ℕ) → IsHeaded a x → 0 < length ys
      → cond (is_below (whole a x) (b ∷ ys)) 1 0 + cond (is_keyed x && is_below x ((b + 1) ∷ [])) 1 0
      ≡ cond (is_keyed x && is_below x (b ∷ ys)) 1 0 + cond (leb a b) 1 0
  one-below a b x [] head long = absurd (omega (arith, long))
  one-below a b [] (y ∷ ys) head long =
      let same : ◌≡◌ {A = ℕ} (cond (is_below (a ∷ []) (b ∷ y ∷ ys)) 1 0) (cond (leb a b) 1 0) =
      ap (λ (t : Bool). cond t 1 0) (single-below a b y ys) in
      omega (arith, same)
  one-below a b (k ∷ ks) (y ∷ ys) head long =
      let next : is_below (k ∷ ks) ((b + 1) ∷ []) ≡ leb a b = below-single k (b + 1) ks ∙ next-lower k b ∙ ap (λ i. leb i b) head.0 in
      ap (λ (t : Bool). cond (is_below (k ∷ ks) (b ∷ y ∷ ys)) 1 0 + cond t 1 0) next

  up-to : (n many : ℕ) → n < count → many ≡ how_many (λ m. nat_eq (rank m) (rank n)) (range_with_len 0 count)
      → how_many (λ m. leb (rank m) (rank n)) (range_with_len 0 count) ≡ rank n + many
  up-to n many low is =
      let none : how_many (λ m. ltb (rank m) (rank m)) (range_with_len 0 count) ≡ 0 = count-none (range_with_len 0 count) in
      let sum = count-pairs (λ m. leb (rank m) (rank n)) (λ m. ltb (rank m) (rank m)) (λ m. ltb (rank m) (rank n))
      (λ m. nat_eq (rank m) (rank n)) (range_with_len 0 count)
      (λ m among. by_tests (rank m) (rank n)) in
      let lower = counted n low in
      omega (arith, none, sum, lower, is)
    where
      not-itself : (a : ℕ) → ltb a a ≡ false
      not-itself a = ltb-high a a (omega arith)

      apart : (a b : ℕ) → (a ≡ b → ⊥) → nat_eq a b ≡ false
      apart a b differ = by_test (nat_eq a b) refl
        where
          by_test : (t : Bool) → nat_eq a b ≡ t → nat_eq a b ≡ false
          by_test true e = absurd (differ (eqb-true a b e))
          by_test false e = e

      count-none : (ms : List ℕ) → how_many (λ m. ltb (rank m) (rank m)) ms ≡ 0
      count-none [] = refl
      count-none (m ∷ ms) =
          let first : ◌≡◌ {A = ℕ} (cond (ltb (rank m) (rank m)) 1 0) 0 = ap (λ (t : Bool). cond t 1 0) (not-itself (rank m)) in
          let rest = count-none ms in
          omega (arith, first, rest)

      by_tests : (a b : ℕ) → cond (leb a b) 1 0 + cond (ltb a a) 1 0 ≡ cond (ltb a b) 1 0 + cond (nat_eq a b) 1 0
      by_tests a b = elim (three a b) [
        | inl low_ ↦ sums (leb a b) (ltb a a) (ltb a b) (nat_eq a b) true false true false (leb-low a b (omega (arith, low_)))
            (not-itself a) (ltb-low a b low_) (apart a b (λ h. omega (arith, h, low_))) refl
        | inr other ↦ elim other [
          | inl same ↦ sums (leb a b) (ltb a a) (ltb a b) (nat_eq a b) true false false true (leb-low a b (omega (arith, same)))
              (not-itself a) (ltb-high a b (omega (arith, same))) (eq-eqb a b same) refl
          | inr high ↦ sums (leb a b) (ltb a a) (ltb a b) (nat_eq a b) false false false false (leb-high a b high) (not-itself a)
              (ltb-high a b (omega (arith, high))) (apart a b (λ h. omega (arith, h, high))) refl
        ]
      ]
        where
          sums : (p q s t p_ q_ s_ t_ : Bool) → p ≡ p_ → q ≡ q_ → s ≡ s_ → t ≡ t_ → cond p_ 1 0 + cond q_ 1 0 ≡ cond s_ 1 0 + cond t_ 1 0
              → cond p 1 0 + cond q 1 0 ≡ cond s 1 0 + cond t 1 0
          sums p q s t p_ q_ s_ t_ hp hq hs ht same =
              ap (λ (b : Bool). cond b 1 0 + cond q 1 0) hp ∙ ap (λ (b : Bool). cond p_ 1 0 + cond b 1 0) hq ∙ same
              ∙ ap (λ (b : Bool). cond b 1 0 + cond t_ 1 0) (sym hs) ∙ ap (λ (b : Bool). cond s 1 0 + cond b 1 0) (sym ht)

  abbrev at : ℕ → List ℕ
  at m = whole (rank m) (key m)

  -- behind those of its rank without a key
  keyed-sum : (n many k : ℕ) (ks : List ℕ) → n < count → many ≡ how_many (λ m. nat_eq (rank m) (rank n)) (range_with_len 0 count)
      → k ≡ rank n → 0 < length ks
      → how_many (λ m. is_below (at m) (k ∷ ks)) (range_with_len 0 count) + rank_among keys ((rank n + 1) ∷ []) ≡ rank_among keys
      (k ∷ ks) + (rank n + many)
  keyed-sum n many k ks low is head long =
      let sum = count-pairs (λ m. is_below (at m) (k ∷ ks)) (λ m. is_keyed (key m) && is_below (key m) ((k + 1) ∷ []))
      (λ m. is_keyed (key m) && is_below (key m) (k ∷ ks)) (λ m. leb (rank m) k) (range_with_len 0 count)
      (λ m among. one-below (rank m) k (key m) ks (headed m (range-below count m among)) long) in
      let next = many-below ((k + 1) ∷ []) in
      let own = many-below (k ∷ ks) in
      let all : how_many (λ m. leb (rank m) k) (range_with_len 0 count) ≡ rank n + many =
      ap (λ i. how_many (λ m. leb (rank m) i) (range_with_len 0 count)) head ∙ up-to n many low is in
      let same : rank_among keys ((rank n + 1) ∷ []) ≡ rank_among keys ((k + 1) ∷ []) =
      ap (λ i. rank_among keys ((i + 1) ∷ [])) (sym head) in
      omega (arith, sum, next, own, all, same)

  pub next-most : (n many : ℕ) → n < count → many ≡ how_many (λ m. nat_eq (rank m) (rank n)) (range_with_len 0 count)
      → rank_among keys ((rank n + 1) ∷ []) ≤ rank n + many
  next-most n many low is =
      let most : how_many (λ m. is_keyed (key m) && is_below (key m) ((rank n + 1) ∷ [])) (range_with_len 0 count) ≤ how_many
      (λ m. leb (rank m) (rank n)) (range_with_len 0 count) =
      count-most-within (range_with_len 0 count) (λ m among. headed m (range-below count m among)) in
      omega (arith, most, many-below ((rank n + 1) ∷ []), up-to n many low is)
    where
      one-most : (a b : ℕ) (x : List ℕ) → IsHeaded a x → cond (is_keyed x && is_below x ((b + 1) ∷ [])) 1 0 ≤ cond (leb a b) 1 0
      one-most a b [] head = omega arith
      one-most a b (k ∷ ks) head =
          let same : ◌≡◌ {A = ℕ} (cond (is_below (k ∷ ks) ((b + 1) ∷ [])) 1 0) (cond (leb a b) 1 0) =
          ap (λ (t : Bool). cond t 1 0) (below-single k (b + 1) ks ∙ next-lower k b ∙ ap (λ i. leb i b) head.0) in
          omega (arith, same)

      count-most-within : (ms : List ℕ) → ((m : ℕ) → Contains ms m → IsHeaded (rank m) (key m))
          → how_many (λ m. is_keyed (key m) && is_below (key m) ((rank n + 1) ∷ [])) ms ≤ how_many (λ m. leb (rank m) (rank n)) ms
      count-most-within [] all = omega arith
      count-most-within (m ∷ ms) all =
          let first = one-most (rank m) (rank n) (key m) (all m (Contains-first m ms)) in
          let rest = count-most-within ms (λ k among. all k (Contains-later m ms k among)) in
          omega (arith, first, rest)

  -- the rank behind the round
  pub told-rank : (n many : ℕ) → n < count → many ≡ how_many (λ m. nat_eq (rank m) (rank n)) (range_with_len 0 count)
      → told_rank keys (rank n) many (key n) ≡ how_many (λ m. is_below (at m) (at n)) (range_with_len 0 count)
  told-rank n many low is = by_key (key n) (headed n low)
    where
      below-all : (ms : List ℕ) → ((m : ℕ) → Contains ms m → IsHeaded (rank m) (key m))
          → how_many (λ m. is_below (at m) (rank n ∷ [])) ms ≡ how_many (λ m. ltb (rank m) (rank n)) ms
      below-all ms all = count-agree (λ m. is_below (at m) (rank n ∷ [])) (λ m. ltb (rank m) (rank n)) ms
          (λ m among. one (rank m) (key m) (all m among))
        where
          one : (a : ℕ) (x : List ℕ) → IsHeaded a x → is_below (whole a x) (rank n ∷ []) ≡ ltb a (rank n)
          one a [] head = below-single a (rank n) []
          one a (k ∷ ks) head = below-single k (rank n) ks ∙ ap (λ i. ltb i (rank n)) head.0

      by_key : (x : List ℕ) → IsHeaded (rank n) x → told_rank keys (rank n) many x ≡ how_many (λ m. is_below (at m) (whole (rank n) x))
          (range_with_len 0 count)
      by_key [] head = sym (below-all (range_with_len 0 count) (λ m among. headed m (range-below count m among)) ∙ counted n low)
      by_key (k ∷ ks) head =
          let sum = keyed-sum n many k ks low is head.0 head.1 in
          let most = next-most n many low is in
          omega (arith, sum, most)

  -- it can be reckoned
  pub tellable : (n many : ℕ) → n < count → many ≡ how_many (λ m. nat_eq (rank m) (rank n)) (range_with_len 0 count)
      → IsTellable count (rank n) many (key n) keys
  tellable n many low is = record {
    next = next-most n many low is;
    few = omega (
      arith,
      up-to n many low is,
      count-bound (λ m. leb (rank m) (rank n)) (range_with_len 0 count),
      length-range_with_len 0
          count,
    );
    some = omega (
      arith,
      is,
      some-counted (λ m. nat_eq (rank m) (rank n)) (range_with_len 0 count) n (Contains-range count n low)
          (itself (rank n)),
    );
    told = omega (
      arith,
      told-rank n many low is,
      count-bound (λ m. is_below (at m) (at n)) (range_with_len 0 count),
      length-range_with_len
          0 count,
    );
  }
    where
      itself : (a : ℕ) → nat_eq a a ≡ true
      itself a = eq-eqb a a refl

-- keys in order
pub told-sorted : (all : List (List ℕ)) (rank many : ℕ) (key : List ℕ)
    → told_rank (sort_texts all) rank many key ≡ told_rank all rank many key
told-sorted all rank many [] = refl
told-sorted all rank many (k ∷ ks) =
    ap (λ i. rank + many - i + rank_among (sort_texts all) (k ∷ ks)) (rank-sorted all ((rank + 1) ∷ []))
    ∙ ap (λ i. rank + many - rank_among all ((rank + 1) ∷ []) + i) (rank-sorted all (k ∷ ks))

pub tellable-sorted : (count rank many : ℕ) (key : List ℕ) (all : List (List ℕ)) → IsTellable count rank many key all
    → IsTellable count rank many key (sort_texts all)
tellable-sorted count rank many key all is = record {
  next = omega (arith, is.next, rank-sorted all ((rank + 1) ∷ []));
  few = is.few;
  some = is.some;
  told = omega (arith, is.told, told-sorted all rank many key);
}

-- ---- one rank

-- without a key it stays
pub told-none : (all : List (List ℕ)) (rank many : ℕ) (key : List ℕ) → length key ≡ 0 → rank ≡ told_rank all rank many key
told-none all rank many [] none = refl
told-none all rank many (k ∷ ks) none = absurd (omega (arith, none))

-- with one it is reckoned
pub told-some : (all : List (List ℕ)) (rank many : ℕ) (key : List ℕ) (low below : ℕ) → 0 < length key
    → low ≡ rank_among all ((rank + 1) ∷ []) → below ≡ rank_among all key
    → rank + many - low + below ≡ told_rank all rank many key
told-some all rank many [] low below some is is_ = absurd (omega (arith, some))
told-some all rank many (k ∷ ks) low below some is is_ = ap (λ i. rank + many - i + below) is
    ∙ ap (λ i. rank + many - rank_among all ((rank + 1) ∷ []) + i) is_
