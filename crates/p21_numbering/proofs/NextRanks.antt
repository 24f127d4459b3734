-- Ranks behind a round, by the keys of the nodes that it may tell from others.
use Rattle.std.specs.Prelude.{◌≡◌, ℕ, ◌<◌, List, [], filter, length, map, ltb, nat_eq, slice_index_or, Bool, false, refl}
use Rattle.std.specs.List.{range_with_len}
use Rattle.std.specs.Global.{Vec}
use denote.Ref.{Bor}
use Rattle.std.proofs.Common.{arith, ap, sym, subst, ◌∙◌, inl, inr}
use Rattle.std.proofs.lemmas.Bool.Decides.{nat_tests}
use Rattle.std.proofs.lemmas.List.{length-map}
use Rattle.std.proofs.lemmas.List.FromFn.{fill_by_all, length-range_with_len}
use Rattle.p21_spec_file.specs.Sorting.{is_below, sort_texts}
use Rattle.p21_spec_laws.proofs.RisingTexts.{sort-rises}
use Rattle.p21_spec_file.specs.CanonicalRecord.{AreTextsRising}
use Rattle.p21_spec_numbering.specs.Fresh.{Ranks, tell}
use Rattle.p21_spec_numbering.specs.Graph.{Graph, how_many}
use Rattle.p21_numbering.specs.declared.adjacency.Adjacency.{Adjacency}
use Rattle.p21_numbering.specs.Arrays.{AreCounted, AreRanks, Represents, rank_at, ranks_of, uses_of}
use Rattle.p21_numbering.specs.Keyed.{AreTellable, IsKeyed, IsTellable, is_keyed, told_rank}
use Rattle.p21_numbering.specs.Largest.{AreSizes}
use Rattle.p21_numbering.specs.Rows.{held_rows, lent_rows}
use Rattle.p21_numbering.proofs.Counts.{Contains-range}
use Rattle.p21_numbering.proofs.KeyedNodes.{alone-is, keyed-headed, keyed-whole}
use Rattle.p21_numbering.proofs.PartSizes.{count-below}
use Rattle.p21_numbering.proofs.RoundKeys.{IsOwn, own-alone, ranks-told}
use Rattle.p21_numbering.proofs.ToldRanks.{IsHeaded, ranks-counted, told-rank, told-sorted, tellable, tellable-sorted, whole}

not-below-itself : (a : ℕ) → ltb a a ≡ false
not-below-itself a = grind (arith, nat_tests)

-- counted ranks are within the count
pub counted-within : (count : ℕ) (rank : ℕ → ℕ) → AreCounted count rank → (n : ℕ) → n < count → rank n < count
counted-within count rank counted n low =
    let few = count-below (λ m. ltb (rank m) (rank n)) (range_with_len 0 count) n (Contains-range count n low)
    (not-below-itself (rank n)) in
    omega (arith, few, counted n low, length-range_with_len 0 count)

-- a round up to the keys in order: the keys that there are, and how many have each rank
pub record IsKeyedRound (rank : List ℕ) (marks : List Bool) (uses users : Adjacency) (sizes : List ℕ) (keys sorted : List (List ℕ)) : Type
    0 where
  pub ranks : AreRanks (length rank) rank marks
  pub are_sizes : AreSizes (length rank) (length rank) rank sizes
  pub keys_long : length keys ≡ length rank
  pub keyed : (n : ℕ) → n < length rank → IsKeyed (rank_at rank n) (rank_at sizes (rank_at rank n)) (ranks_of rank marks) (uses_of uses n)
      (uses_of users n) (slice_index_or keys n [])
  pub sorted_is : sorted ≡ sort_texts (filter is_keyed keys)

-- the same as the calls say it, of what is lent to them
pub round-is : (rank : List ℕ) (marks : List Bool) (uses users : Adjacency) (sizes sizes_ : List ℕ) (keys keys_ : List (Vec ℕ))
    (rows rows_ sorted : List (Bor (List ℕ)))
    → AreRanks (length rank) rank marks → AreSizes (length rank) (length rank) rank sizes → sizes_ ≡ sizes → length keys ≡ length rank
    → ((n : ℕ) → n < length rank → IsKeyed (rank_at rank n) (rank_at sizes_ (rank_at rank n)) (ranks_of rank marks) (uses_of uses n)
    (uses_of users n) (slice_index_or (held_rows keys) n []))
    → keys_ ≡ keys → lent_rows rows ≡ filter is_keyed (held_rows keys_) → rows_ ≡ rows → lent_rows sorted ≡ sort_texts (lent_rows rows_)
    → IsKeyedRound rank marks uses users sizes (held_rows keys) (lent_rows sorted)
round-is rank marks uses users sizes sizes_ keys keys_ rows rows_ sorted ranks are_sizes same long keyed same_keys rows_are same_rows
    sorted_is =
    let K : List ℕ → Type 0 = λ s. (n : ℕ) → n < length rank
    → IsKeyed (rank_at rank n) (rank_at s (rank_at rank n)) (ranks_of rank marks) (uses_of uses n) (uses_of users n)
    (slice_index_or (held_rows keys) n []) in
    record {
      ranks = ranks;
      are_sizes = are_sizes;
      keys_long = length-map keys (λ (row : Vec ℕ). row.items) ∙ long;
      keyed = subst K same keyed;
      sorted_is = sorted_is ∙ ap sort_texts (ap lent_rows same_rows ∙ rows_are
          ∙ ap (λ (ks : List (Vec ℕ)). filter is_keyed (held_rows ks)) same_keys);
    }

module _ (rank : List ℕ) (marks : List Bool) (uses users : Adjacency) (sizes : List ℕ) (keys sorted : List (List ℕ))
    (round : IsKeyedRound rank marks uses users sizes keys sorted) where
  abbrev count : ℕ
  count = length rank

  abbrev key : ℕ → List ℕ
  key n = slice_index_or keys n []

  abbrev many : ℕ → ℕ
  many n = rank_at sizes (rank_at rank n)

  abbrev row : ℕ → List ℕ
  row n = whole (rank_at rank n) (key n)

  all-keys : keys ≡ map key (range_with_len 0 count)
  all-keys = fill_by_all key keys count [] round.keys_long (λ k within. refl)

  many-is : (n : ℕ) → n < count → many n ≡ how_many (λ m. nat_eq (rank_at rank m) (rank_at rank n)) (range_with_len 0 count)
  many-is n low = round.are_sizes.each (rank_at rank n) (round.ranks.within n low)

  headed : (n : ℕ) → n < count → IsHeaded (rank_at rank n) (key n)
  headed n low = keyed-headed (rank_at rank n) (many n) (ranks_of rank marks) (uses_of uses n) (uses_of users n) (key n) (round.keyed n low)

  each-tellable : (n : ℕ) → n < count → IsTellable count (rank_at rank n) (many n) (key n) sorted
  each-tellable n low =
      let P : List (List ℕ) → Type 0 = λ ks. IsTellable count (rank_at rank n) (many n) (key n) (filter is_keyed ks) in
      let Q : List (List ℕ) → Type 0 = λ ks. IsTellable count (rank_at rank n) (many n) (key n) ks in
      let one : P keys = subst P (sym all-keys) (tellable count (rank_at rank) key headed round.ranks.counted n (many n) low
      (many-is n low)) in
      subst Q (sym round.sorted_is) (tellable-sorted count (rank_at rank n) (many n) (key n) (filter is_keyed keys) one)

  pub are-tellable : AreTellable rank sizes keys sorted
  are-tellable = record {
    sizes_are = round.are_sizes.long;
    keys_are = round.keys_long;
    within = round.ranks.within;
    rise = subst AreTextsRising (sym round.sorted_is) (sort-rises (filter is_keyed keys));
    each = each-tellable;
  }

  module _ (parts : List ℕ) (parts_are : (n : ℕ) → n < length rank
      → rank_at parts n ≡ told_rank sorted (rank_at rank n) (rank_at sizes (rank_at rank n)) (slice_index_or keys n [])) where
    rows-are : (n : ℕ) → n < count → rank_at parts n ≡ how_many (λ m. is_below (row m) (row n)) (range_with_len 0 count)
    rows-are n low =
        parts_are n low
        ∙ ap (λ (ks : List (List ℕ)). told_rank ks (rank_at rank n) (many n) (key n)) round.sorted_is
        ∙ told-sorted (filter is_keyed keys) (rank_at rank n) (many n) (key n)
        ∙ ap (λ (ks : List (List ℕ)). told_rank (filter is_keyed ks) (rank_at rank n) (many n) (key n)) all-keys
        ∙ told-rank count (rank_at rank) key headed round.ranks.counted n (many n) low (many-is n low)

    pub parts-counted : AreCounted (length rank) (rank_at parts)
    parts-counted = ranks-counted count row (rank_at parts) rows-are

    pub parts-within : (n : ℕ) → n < length rank → rank_at parts n < length rank
    parts-within n low = counted-within count (rank_at parts) parts-counted n low

    pub parts-told : (g : Graph) (place : ℕ → List ℕ) → Represents g place (length rank) uses users → (n : ℕ) → n < length rank
        → rank_at parts n ≡ (tell g (ranks_of rank marks)).rank n
    parts-told g place stands n low = rows-are n low ∙ ranks-told g place count uses users stands c row own n low
      where
        c : Ranks
        c = ranks_of rank marks

        own : (m : ℕ) → m < count → IsOwn g place count uses users stands c m (row m)
        own m within = elim (keyed-whole (rank_at rank m) (many m) c (uses_of uses m) (uses_of users m) (key m) (round.keyed m within)) [
          | inl whole_key ↦ inl whole_key
          | inr alone ↦ (
              let few : how_many (λ k. nat_eq (rank_at rank k) (rank_at rank m)) (range_with_len 0 count) < 2 =
              omega (arith, alone.0, many-is m within) in
              let P : List ℕ → Type 0 = λ r. IsOwn g place count uses users stands c m r in
              subst P (sym alone.1) (own-alone g place count uses users stands c m (alone-is count (rank_at rank) m within few)))
        ]

-- the ranks as the call says them
pub parts-are : (rank sizes sizes_ : List ℕ) (keys keys_ : List (Vec ℕ)) (sorted sorted_ : List (Bor (List ℕ))) (parts : List ℕ)
    → sizes_ ≡ sizes → keys_ ≡ keys → sorted_ ≡ sorted
    → ((n : ℕ) → n < length rank → rank_at parts n ≡ told_rank (lent_rows sorted_) (rank_at rank n) (rank_at sizes_ (rank_at rank n))
    (slice_index_or (held_rows keys_) n []))
    → (n : ℕ) → n < length rank → rank_at parts n ≡ told_rank (lent_rows sorted) (rank_at rank n) (rank_at sizes (rank_at rank n))
    (slice_index_or (held_rows keys) n [])
parts-are rank sizes sizes_ keys keys_ sorted sorted_ parts same_sizes same_keys same_sorted each n low =
    each n low
    ∙ ap (λ (s : List ℕ). told_rank (lent_rows sorted_) (rank_at rank n) (rank_at s (rank_at rank n))
    (slice_index_or (held_rows keys_) n [])) same_sizes
    ∙ ap (λ (ks : List (Vec ℕ)). told_rank (lent_rows sorted_) (rank_at rank n) (rank_at sizes (rank_at rank n))
    (slice_index_or (held_rows ks) n [])) same_keys
    ∙ ap (λ (ts : List (Bor (List ℕ))). told_rank (lent_rows ts) (rank_at rank n) (rank_at sizes (rank_at rank n))
    (slice_index_or (held_rows keys) n [])) same_sorted
