-- Kinds are ranks of the rows of entities.
use Rattle.std.specs.Prelude.{◌≡◌, ◌<◌, ◌+◌, ℕ, List, [], ◌++◌, ◌-◌, map, length, Contains}
use Rattle.std.specs.Cmp.{nat_cmp_is}
use Rattle.std.specs.Cmp.Lexicographic.{slice_cmp}
use Rattle.std.specs.Ordering.{nat_cmp, is_lt, ordering_reverse}
use Rattle.std.proofs.Common.{Equal, arith, ap, sym, ◌∙◌, get_or}
use Rattle.std.proofs.lemmas.Cmp.{nat_list_cmp_total}
use Rattle.std.proofs.lemmas.List.{get_or-map, length-map, length-append, get_or_append_left, get_or-append_right}
use Rattle.std.proofs.lemmas.List.Elements.{Contains-get_or}
use Rattle.p21_spec_basics.proofs.Comparing.{level-equal}
use Rattle.p21_numbering.specs.Arrays.{rank_at}
use Rattle.p21_numbering.specs.Instances.{Instance, no_instance}
use Rattle.p21_numbering.specs.Rows.{rank_among}
use Rattle.p21_numbering.proofs.PlaceNumbers.{ranks-ordered}
use Rattle.p21_numbering.proofs.Telling.{rank-at, ranks-long, ranks-within}
use Rattle.p21_pairing.specs.Kinds.{AreKinds, entities_at}

-- rows with one rank are one
rank-apart : (all : List (List ℕ)) (p q : List ℕ) → Contains all p → Contains all q → rank_among all p ≡ rank_among all q → p ≡ q
rank-apart all p q among among_ same =
    let equal : Equal ≡ nat_cmp (rank_among all p) (rank_among all q) = nat_cmp_is (rank_among all p) (rank_among all q) Equal same in
    let here : slice_cmp nat_cmp p q ≡ Equal = ranks-ordered all p q among among_ ∙ sym equal in
    level-equal p q (ap is_lt here) (ap is_lt (nat_list_cmp_total.antisymm q p ∙ ap ordering_reverse here))

module _ (first second : List Instance) where
  abbrev own : Instance → List ℕ
  own i = i.typed.entities

  abbrev pub rows : List (List ℕ)
  rows = map own first ++ map own second

  rows-long : length rows ≡ length first + length second
  rows-long = let joined = length-append (map own first) (map own second) in
      omega (arith, joined, length-map first own, length-map second own)

  at-first : (i : ℕ) → i < length first → get_or rows i [] ≡ entities_at first i
  at-first i low = get_or_append_left (map own first) (map own second) [] i (omega (arith, low, length-map first own))
      ∙ get_or-map own first i no_instance [] low

  at-second : (j : ℕ) → j < length second → get_or rows (length first + j) [] ≡ entities_at second j
  at-second j low =
      let over : length first + j - length first ≡ j = omega arith in
      get_or-append_right (map own first) (map own second) (length first) (length first + j) [] (length-map first own) (omega arith)
      ∙ ap (λ k. get_or (map own second) k []) over ∙ get_or-map own second j no_instance [] low

  pub kinds-are : (kinds : List ℕ) → kinds ≡ map (rank_among rows) rows → AreKinds first second kinds
  kinds-are kinds are = record {
    long = ranks-long rows kinds are ∙ rows-long;
    within = λ k low. (let long = ranks-long rows kinds are in let below = ranks-within rows kinds are k (omega (arith, low, long)) in
        omega (arith, below, long));
    one_set = λ i j low low_.
        let in_rows : i < length rows = omega (arith, low, rows-long) in
        let in_rows_ : length first + j < length rows = omega (arith, low_, rows-long) in
        let one : rank_at kinds i ≡ rank_among rows (get_or rows i []) = rank-at rows kinds are i in_rows in
        let other : rank_at kinds (length first + j) ≡ rank_among rows (get_or rows (length first + j) []) =
        rank-at rows kinds are (length first + j) in_rows_ in (
          λ same. sym (at-first i low) ∙ rank-apart rows (get_or rows i []) (get_or rows (length first + j) [])
              (Contains-get_or rows i [] in_rows) (Contains-get_or rows (length first + j) [] in_rows_) (sym one ∙ same ∙ other)
              ∙ at-second j low_,
          λ alike. one ∙ ap (rank_among rows) (at-first i low ∙ alike ∙ sym (at-second j low_)) ∙ sym other,
        );
  }
