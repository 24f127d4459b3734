-- Rows in order, and how many of them stand below one.
use Rattle.std.specs.Prelude.{◌≡◌, ℕ, zero, suc, ◌+◌, ◌-◌, ◌<◌, ◌≤◌, Bool, true, false, cond, List, [], ◌∷◌, length, map, take, ◌++◌, if◌then◌else◌, refl}
use Rattle.std.specs.Cmp.Lexicographic.{slice_cmp}
use Rattle.std.specs.List.{AllWithin}
use Rattle.std.specs.List.Sorted.{IsSorted, IsPartitionedBy, IsPartitionPoint}
use Rattle.std.specs.Ordering.{nat_cmp}
use Rattle.std.proofs.Common.{arith, ap, sym, subst, ◌∙◌, get_or, IsPermutation}
use Rattle.std.proofs.lemmas.List.{get_or-map, length-map, take_more, map-append}
use Rattle.std.proofs.lemmas.List.Sorted.{IsPermutation-map}
use denote.Ref.{Bor}
use Rattle.p21_spec_file.specs.CanonicalRecord.{AreTextsRising}
use Rattle.p21_spec_file.specs.Sorting.{is_below, insert_text, sort_texts}
use Rattle.p21_spec_laws.proofs.RisingTexts.{sort-rises}
use Rattle.p21_spec_laws.proofs.Sorting.{sorted-is, below-across}
use Rattle.p21_spec_numbering.specs.Graph.{how_many}
use Rattle.p21_spec_numbering.proofs.Lists.{count-mapped, count-shuffled}
use Rattle.p21_numbering.specs.Rows.{lent_rows, rank_among}
use Rattle.p21_spec_basics.proofs.Shuffles.{Taken, taken_first, taken_later, Shuffled, no_more, one_more}

-- ---- a sort

rising_rows : (rows : List (Bor (List ℕ))) → IsSorted (λ a b. slice_cmp nat_cmp a.now b.now) rows → AreTextsRising (lent_rows rows)
rising_rows [] rises k d low high = absurd (omega (arith, high))
rising_rows (first ∷ rest) rises k d low high =
    let rows : List (Bor (List ℕ)) = first ∷ rest in
    let long : k + 1 < length rows = omega (arith, high, length-map rest (λ (row : Bor (List ℕ)). row.now)) in
    let at = λ (i : ℕ) (within : i < length rows). get_or-map (λ (row : Bor (List ℕ)). row.now) rows i first d within in
    rw (at (k + 1) long, at k (omega arith)) (rises k first low long)

-- the sorted references are the sorted rows
pub sorted_rows-are : (rows sorted : List (Bor (List ℕ))) (all : List (List ℕ)) → lent_rows rows ≡ all → IsPermutation rows sorted
    → IsSorted (λ a b. slice_cmp nat_cmp a.now b.now) sorted → lent_rows sorted ≡ sort_texts all
sorted_rows-are rows sorted all is permuted rises =
    sorted-is _ _ (subst (λ xs. IsPermutation xs (lent_rows sorted)) is (IsPermutation-map (λ row. row.now) rows sorted permuted))
    (rising_rows sorted rises)

-- ---- a search

-- what stands before one that is below the row is below it
below-before : (rows : List (List ℕ)) (row : List ℕ) → AreTextsRising rows → (i more : ℕ) (d : List ℕ) → i + more < length rows
    → is_below (get_or rows (i + more) d) row ≡ true → is_below (get_or rows i d) row ≡ true
below-before rows row rise i zero d long below = let P : ℕ
    → Type 0 = λ k. is_below (get_or rows k d) row ≡ true in let same : i + 0 ≡ i = omega arith in subst P same below
below-before rows row rise i (suc more) d long below =
    let P : ℕ → Type 0 = λ k. is_below (get_or rows k d) row ≡ true in
    let next : i + suc more ≡ i + more + 1 = omega arith in
    below-before rows row rise i more d (omega (arith, long))
    (below-across (get_or rows (i + more + 1) d) (get_or rows (i + more) d) row (subst P next below)
    (rise (i + more) d (omega arith) (omega (arith, long))))

pub partitioned-by_row : (rows : List (Bor (List ℕ))) (row : List ℕ) → AreTextsRising (lent_rows rows)
    → IsPartitionedBy (λ other. is_below other.now row) rows
partitioned-by_row [] row rise i j d low high below = absurd (omega (arith, high))
partitioned-by_row (first ∷ rest) row rise i j d low high below =
    let rows : List (Bor (List ℕ)) = first ∷ rest in
    let long : length (lent_rows rows) ≡ length rows = length-map rows (λ (r : Bor (List ℕ)). r.now) in
    let at = λ (k : ℕ) (within : k < length rows). get_or-map (λ (r : Bor (List ℕ)). r.now) rows k d [] within in
    let P : List ℕ → Type 0 = λ x. is_below x row ≡ true in
    let Q : ℕ → Type 0 = λ k. is_below (get_or (lent_rows rows) k []) row ≡ true in
    let join : j ≡ i + (j - i) = omega (arith, low) in
    let there : Q (i + (j - i)) = subst Q join (subst P (sym (at j high)) below) in
    subst P (at i (omega (arith, low, high))) (below-before (lent_rows rows) row rise i (j - i) [] (omega (arith, low, high, long)) there)

-- what passes stands before what doesn't
pub counted : {X : Type 0} (p : X → Bool) (xs : List X) (i : ℕ) → i ≤ length xs → AllWithin (λ x. p x ≡ true) xs 0 i
    → AllWithin (λ x. p x ≡ false) xs i (length xs) → how_many p xs ≡ i
counted p [] zero low pass fail = refl
counted p [] (suc i) low pass fail = absurd (omega (arith, low))
counted p (x ∷ xs) zero low pass fail =
    let first : p x ≡ false = fail 0 x (omega arith) (omega arith) in
    let rest : how_many p xs ≡ 0 = counted p xs zero (omega arith) (λ k d from below. absurd (omega (arith, below)))
    (λ k d from below. fail (suc k) d (omega arith) (omega (arith, below))) in
    let none : ◌≡◌ {A = ℕ} (cond (p x) 1 0) 0 = ap (λ (b : Bool). cond b 1 0) first in
    omega (arith, none, rest)
counted p (x ∷ xs) (suc i) low pass fail =
    let first : p x ≡ true = pass 0 x (omega arith) (omega arith) in
    let rest : how_many p xs ≡ i = counted p xs i (omega (arith, low))
    (λ k d from below. pass (suc k) d (omega arith) (omega (arith, below)))
    (λ k d from below. fail (suc k) d (omega (arith, from)) (omega (arith, below))) in
    let one : ◌≡◌ {A = ℕ} (cond (p x) 1 0) 1 = ap (λ (b : Bool). cond b 1 0) first in
    omega (arith, one, rest)

pub found-rank : (rows : List (Bor (List ℕ))) (row : List ℕ) (i : ℕ) → i ≤ length rows
    → IsPartitionPoint (λ x. is_below x.now row ≡ true) (λ x. is_below x.now row ≡ false) rows i → i ≡ rank_among (lent_rows rows) row
found-rank rows row i low point = sym (count-mapped (λ other. is_below other row) (λ (r : Bor (List ℕ)). r.now) rows
    ∙ counted (λ (r : Bor (List ℕ)). is_below r.now row) rows i low point.0 point.1)

-- ---- ranks

inserted : (x : List ℕ) (ys : List (List ℕ)) → Taken x (insert_text x ys) ys
inserted x [] = taken_first x [] refl
inserted x (y ∷ ys) = by_test (is_below y x) (inserted x ys)
  where
    by_test : (b : Bool) → Taken x (insert_text x ys) ys → Taken x (if b then y ∷ insert_text x ys else x ∷ y ∷ ys) (y ∷ ys)
    by_test true later = taken_later y (insert_text x ys) ys later
    by_test false later = taken_first x (y ∷ ys) refl

pub sorted-shuffled : (rows : List (List ℕ)) → Shuffled rows (sort_texts rows)
sorted-shuffled [] = no_more
sorted-shuffled (row ∷ rows) = one_more row rows (insert_text row (sort_texts rows)) (sort_texts rows) (inserted row (sort_texts rows))
    (sorted-shuffled rows)

-- ranks are the same among sorted rows
pub rank-sorted : (rows : List (List ℕ)) (row : List ℕ) → rank_among (sort_texts rows) row ≡ rank_among rows row
rank-sorted rows row = sym (count-shuffled (λ other. is_below other row) rows (sort_texts rows) (sorted-shuffled rows))

-- one rank more
pub ranks-more : (rows : List (Bor (List ℕ))) (k : ℕ) (d : Bor (List ℕ)) (f : List ℕ → ℕ) (ranks more : List ℕ) (rank : ℕ) → k < length rows
    → ranks ≡ map f (lent_rows (take k rows)) → more ≡ ranks ++ rank ∷ [] → rank ≡ f (get_or rows k d).now
    → more ≡ map f (lent_rows (take (k + 1) rows))
ranks-more rows k d f ranks more rank low so_far pushed is =
    let all : lent_rows (take (k + 1) rows) ≡ lent_rows (take k rows) ++ (get_or rows k d).now ∷ [] = ap lent_rows (take_more rows k d low)
    ∙ map-append (λ (row : Bor (List ℕ)). row.now) (take k rows) (get_or rows k d ∷ []) in
    let ranked : map f (lent_rows (take (k + 1) rows)) ≡ map f (lent_rows (take k rows)) ++ f (get_or rows k d).now ∷ [] = ap (map f) all
    ∙ map-append f (lent_rows (take k rows)) ((get_or rows k d).now ∷ []) in
    pushed ∙ ap (λ (xs : List ℕ). xs ++ rank ∷ []) so_far ∙ ap (λ (r : ℕ). map f (lent_rows (take k rows)) ++ r ∷ []) is ∙ sym ranked

pub sorted_rows-rise : (sorted : List (Bor (List ℕ))) (all : List (List ℕ)) → lent_rows sorted ≡ sort_texts all
    → AreTextsRising (lent_rows sorted)
sorted_rows-rise sorted all is = subst AreTextsRising (sym is) (sort-rises all)

-- a rank among sorted rows is one among the rows
pub ranked : (rows sorted : List (List ℕ)) (row : List ℕ) (rank : ℕ) → sorted ≡ sort_texts rows → rank ≡ rank_among sorted row
    → rank ≡ rank_among rows row
ranked rows sorted row rank is at = at ∙ ap (λ (xs : List (List ℕ)). rank_among xs row) is ∙ rank-sorted rows row
