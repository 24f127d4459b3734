-- A round over arrays.
use Rattle.std.specs.Prelude.{◌≡◌, ℕ, ◌+◌, ◌-◌, ◌<◌, ◌≤◌, suc, Bool, true, false, List, [], map, length, refl, not, ◌&&◌, ◌||◌, nat_eq, ltb, Contains, if◌then◌else◌}
use Rattle.std.specs.List.{range_with_len}
use Rattle.p21_spec_numbering.specs.Graph.{Graph, how_many, rank_by}
use Rattle.p21_spec_numbering.specs.Fresh.{Ranks, size, is_largest, tell, is_told, told}
use Rattle.p21_spec_numbering.proofs.Lists.{count-agree}
use Rattle.p21_spec_numbering.proofs.Ranks.{IsMoved}
use Rattle.p21_spec_numbering.proofs.Fresh.{AreMoved, rank-moved, fresh-moved, done-moved, ranks-stand_still}
use Rattle.p21_numbering.specs.Arrays.{marked, ranks_of, AgreeBelow}
use Rattle.p21_numbering.proofs.Counts.{range-below, Contains-range}
use Rattle.std.proofs.Common.{arith, ap, sym, subst, ◌∙◌, get_or, map-id}
use Rattle.p21_spec_basics.proofs.Shuffles.{Shuffled, Shuffled-reflexive}
use Rattle.std.proofs.lemmas.List.{get_or-map, length-map}
use Rattle.std.proofs.lemmas.List.Elements.{Contains-get_or}
use Rattle.p21_spec_file.specs.Sorting.{is_below}
use Rattle.p21_spec_laws.proofs.Sorting.{below-itself}
use Rattle.p21_numbering.specs.Arrays.{rank_at}
use Rattle.p21_numbering.specs.Rows.{rank_among}
use Rattle.p21_numbering.proofs.PartSizes.{count-below}

pub rank-at : (rows : List (List ℕ)) (ranks : List ℕ) → ranks ≡ map (rank_among rows) rows → (n : ℕ) → n < length rows
    → rank_at ranks n ≡ rank_among rows (get_or rows n [])
rank-at rows ranks are n low = ap (λ (rs : List ℕ). get_or rs n 0) are ∙ get_or-map (rank_among rows) rows n [] 0 low

pub ranks-long : (rows : List (List ℕ)) (ranks : List ℕ) → ranks ≡ map (rank_among rows) rows → length ranks ≡ length rows
ranks-long rows ranks are = ap length are ∙ length-map rows (rank_among rows)

pub ranks-within : (rows : List (List ℕ)) (ranks : List ℕ) → ranks ≡ map (rank_among rows) rows → (n : ℕ) → n < length rows
    → rank_at ranks n < length rows
ranks-within rows ranks are n low =
    let row : List ℕ = get_or rows n [] in
    let below = count-below (λ (other : List ℕ). is_below other row) rows row (Contains-get_or rows n [] low) (below-itself row) in
    omega (arith, below, rank-at rows ranks are n low)

module _ (g : Graph) (count : ℕ) (nodes : g.nodes ≡ range_with_len 0 count) where
  node-below : (m : ℕ) → Contains g.nodes m → m < count
  node-below m among = let P : List ℕ → Type 0 = λ ns. Contains ns m in range-below count m (subst P nodes among)

  -- parts that agree are the largest alike
  largest-agrees : (old new other : ℕ → ℕ) → ((m : ℕ) → m < count → new m ≡ other m) → (n : ℕ) → n < count
      → is_largest g old new n ≡ is_largest g old other n
  largest-agrees old new other same n low =
      let test : ℕ → ℕ → ℕ → ℕ → ℕ → Bool = λ m s t x y. nat_eq (old m) (old n) && (ltb t s || (nat_eq s t && ltb x y)) in
      let size-same : (k : ℕ) → k < count → size g new k ≡ size g other k =
      λ k low_. count-agree (λ m. nat_eq (new m) (new k)) (λ m. nat_eq (other m) (other k)) g.nodes
      (λ m among. ap (λ x. nat_eq x (new k)) (same m (node-below m among)) ∙ ap (nat_eq (other m)) (same k low_)) in
      ap (λ k. nat_eq k 0) (count-agree (λ m. test m (size g new m) (size g new n) (new m) (new n))
      (λ m. test m (size g other m) (size g other n) (other m) (other n)) g.nodes
      (λ m among. let within = node-below m among in
      ap (λ s. test m s (size g new n) (new m) (new n)) (size-same m within)
      ∙ ap (λ t. test m (size g other m) t (new m) (new n)) (size-same n low)
      ∙ ap (λ x. test m (size g other m) (size g other n) x (new n)) (same m within)
      ∙ ap (λ y. test m (size g other m) (size g other n) (other m) y) (same n low)))

  pub fresh-told : (c : Ranks) (next : List Bool) (parts : List ℕ) → ((m : ℕ) → m < count → rank_at parts m ≡ (tell g c).rank m)
      → ((n : ℕ) → n < count → marked next n ≡ not (is_largest g c.rank (rank_at parts) n)) → (n : ℕ) → n < count
      → marked next n ≡ (tell g c).fresh n
  fresh-told c next parts parts-are each n low = each n low
      ∙ ap (λ (b : Bool). not b) (largest-agrees c.rank (rank_at parts) (tell g c).rank parts-are n low)

  -- ---- rounds

  own-moved : IsMoved (λ n. n) g g
  own-moved = record {
    nodes = let P : List ℕ → Type 0 = λ ns. Shuffled ns g.nodes in subst P (sym (map-id g.nodes)) (Shuffled-reflexive g.nodes);
    labels = λ n among. refl;
    places = λ m n among among_. refl;
  }

  as-moved : (c d : Ranks) → AgreeBelow count c d → AreMoved (λ n. n) g d c
  as-moved c d same = record {
    same_rank = λ n among. same.rank n (node-below n among);
    same_fresh =
        λ n among. same.fresh n (node-below n among);
  }

  node-among : (n : ℕ) → n < count → Contains g.nodes n
  node-among n low = let P : List ℕ → Type 0 = λ ns. Contains ns n in subst P (sym nodes) (Contains-range count n low)

  -- one round more
  pub rounds-more : (k : ℕ) (c next : Ranks) → AgreeBelow count c (told g k) → is_told g c ≡ false → AgreeBelow count next (tell g c)
      → AgreeBelow count next (told g (k + 1))
  rounds-more k c next same waiting stepped =
      let moved = as-moved c (told g k) same in
      let not_done : is_told g (told g k) ≡ false = sym (done-moved (λ n. n) g g own-moved (told g k) c moved) ∙ waiting in
      let next_is : told g (suc k) ≡ tell g (told g k) = ap (λ (b : Bool). if b then told g k else tell g (told g k)) not_done in
      let one : suc k ≡ k + 1 = omega arith in
      let P : Ranks → Type 0 = λ d. AgreeBelow count next d in
      subst P (sym next_is ∙ ap (told g) one) (record {
        rank = λ n low. stepped.rank n low ∙ rank-moved (λ n. n) g g own-moved (told g k) c moved n (node-among n low);
        fresh = λ n low. stepped.fresh n low ∙ fresh-moved (λ n. n) g g own-moved (told g k) c moved n (node-among n low);
      })

  -- at the end
  pub rounds-end : (k : ℕ) (c : Ranks) → AgreeBelow count c (told g k) → k ≤ count → is_told g c ≡ true → AgreeBelow count c (told g count)
  rounds-end k c same low done =
      let moved = as-moved c (told g k) same in
      let also : is_told g (told g k) ≡ true = sym (done-moved (λ n. n) g g own-moved (told g k) c moved) ∙ done in
      let whole : count - k + k ≡ count = omega (arith, low) in
      let P : Ranks → Type 0 = λ d. AgreeBelow count c d in
      subst P (sym (ranks-stand_still g k also (count - k)) ∙ ap (told g) whole) same

  pub done-is : (rank : List ℕ) (fresh : List Bool) (any : Bool) → length fresh ≡ count
      → any ≡ not (nat_eq (how_many (marked fresh) (range_with_len 0 (length fresh))) 0) → is_told g (ranks_of rank fresh) ≡ not any
  done-is rank fresh any long is =
      let same : range_with_len 0 (length fresh) ≡ g.nodes = ap (range_with_len 0) long ∙ sym nodes in
      let is_ : any ≡ not (nat_eq (how_many (marked fresh) g.nodes) 0) = is
      ∙ ap (λ (ns : List ℕ). not (nat_eq (how_many (marked fresh) ns) 0)) same in
      sym (ap not is_ ∙ twice_not (nat_eq (how_many (marked fresh) g.nodes) 0))
    where
      twice_not : (b : Bool) → not (not b) ≡ b
      twice_not true = refl
      twice_not false = refl

-- the ranks of the labels come first
pub first-ranks : (g : Graph) (count : ℕ) (rank : List ℕ) (fresh : List Bool)
    → ((n : ℕ) → n < count → rank_at rank n ≡ rank_by g.label g.nodes n) → ((n : ℕ) → n < count → marked fresh n ≡ true)
    → AgreeBelow count (ranks_of rank fresh) (told g 0)
first-ranks g count rank fresh labels all = record { rank = labels; fresh = all }
