-- What is answered of the order of a file's instances.
use Rattle.std.specs.Prelude.{◌≡◌, ◌≢◌, ◌<◌, ℕ, List, map, length, Option, Some, None, Contains}
use Rattle.std.specs.List.Sorted.{IsPermutation, IsSorted}
use Rattle.std.proofs.Common.{ap, sym, subst, ◌∙◌, inl, inr}
use Rattle.p21_spec_basics.proofs.Shuffles.{none_twice-distinct}
use Rattle.p21_spec_file.specs.File.{FileMeaning, Reads}
use Rattle.p21_spec_schema.specs.Schema.{Schema}
use Rattle.p21_spec_schema.specs.WellFormed.{IsWellFormed}
use Rattle.p21_spec_numbering.specs.Copies.{IsAligned, IsDecided}
use Rattle.p21_spec_numbering.specs.Ordered.{Ranking, IsOrder}
use Rattle.p21_spec_numbering.specs.Renamed.{names}
use Rattle.p21_numbering.specs.Arrays.{Entry, entry_cmp}
use Rattle.p21_numbering.specs.Joining.{Connected, number_at}
use Rattle.p21_numbering.specs.Ordering.{AreAlike, FindsClash, entries_of}
use Rattle.p21_numbering.specs.Ranked.{AreRanked, IsLoose, Ranked, name_of, ranked_at}
use Rattle.p21_numbering.proofs.Decisions.{ArePairs, at-one, decided-so, member, not-in_one_part, not-said_alike, own, part, part-at, stands}
use Rattle.p21_numbering.proofs.SortedCopies.{clashing, name-at, name-is, names-ascend, names-once, names-rise, told}

module _ (s : Schema) (formed : IsWellFormed s) (bytes : List ℕ) (m : FileMeaning) (reads : Reads s bytes m) (ranking : Ranking)
    (all : List Ranked) (are : AreRanked s ranking m all) where
  -- another name of the rank of one that is loose
  pub loose-alike : (k : ℕ) (low : k < length all) (t : ℕ × ℕ) → (ranked_at all k).loose ≡ Some t → (other : ℕ)
      → ((j : ℕ) → j < length all → (ranked_at all j).rank ≡ t.1 → name_of all j ≢ t.0
      → (i : ℕ) × (i < length all) × (name_of all i ≡ other) × ((ranked_at all i).rank ≡ t.1) × (other ≢ t.0))
      → AreAlike ranking m t.0 other
  loose-alike k low t is other finds =
      let r = are.each k low in
      let P : Option (ℕ × ℕ) → Type 0 = λ o. IsLoose ranking m (name_of all k) r.typed o in
      let (among, (j, at_j, differ_, one), rank_, not_) = subst P is r.loose_is in
      let there = stands s formed bytes m reads ranking all are j at_j in
      let same_rank : (ranked_at all there.at).rank ≡ t.1 = (are.each there.at there.low).rank_is ∙ ap (ranking m) there.is ∙ one
      ∙ sym rank_ in
      let (i, low_i, is_i, rank_i, other_) = finds there.at there.low same_rank (λ same. differ_ (sym there.is ∙ same)) in
      let Q : ℕ → Type 0 = λ n. Contains (names m) n in
      record {
        first = among;
        second = subst Q is_i (member s formed bytes m reads ranking all are i low_i);
        differ = λ same. other_ (sym same);
        one_rank = sym rank_ ∙ sym rank_i ∙ (are.each i low_i).rank_is ∙ ap (ranking m) is_i;
        not_decided = not_;
      }

  module _ (pairs : List (ℕ × ℕ)) (are_pairs : ArePairs all pairs) (parts : List ℕ)
      (joined : (p : ℕ × ℕ) → Contains pairs p → number_at parts p.0 ≡ number_at parts p.1)
      (connected : (j k : ℕ) → j < length all → k < length all → number_at parts j ≡ number_at parts k → Connected pairs j k)
      (sorted : List Entry) (permuted : IsPermutation (entries_of all parts) sorted) where
    -- two neighbours that clash
    pub clash-alike : (found : ℕ × ℕ) → FindsClash all sorted (Some found) → AreAlike ranking m (name_of all found.0) (name_of all found.1)
    clash-alike found finds =
        let c = clashing all parts sorted permuted found finds in
        let not_decided_ : ¬ IsDecided ranking m = elim c.why [
          | inl same ↦ not-in_one_part s formed bytes m reads ranking all are pairs are_pairs parts joined connected found.0 found.1 c.low
              c.low_other c.differ c.one_rank same
          | inr other ↦ not-said_alike s formed bytes m reads ranking all are found.0 found.1 c.low c.low_other c.differ c.one_rank other
        ] in
        record {
          first = member s formed bytes m reads ranking all are found.0 c.low;
          second = member s formed bytes m reads ranking all are found.1 c.low_other;
          differ = λ same. c.differ (at-one s formed bytes m reads ranking all are found.0 found.1 c.low c.low_other same);
          one_rank = sym (are.each found.0 c.low).rank_is ∙ c.one_rank ∙ (are.each found.1 c.low_other).rank_is;
          not_decided = not_decided_;
        }

    abbrev part_ : ℕ → ℕ
    part_ = part s formed bytes m reads ranking all are pairs are_pairs parts joined

    -- none is loose, and none clash
    pub ordered-so : ((k : ℕ) → k < length all → (ranked_at all k).loose ≡ None) → IsSorted entry_cmp sorted → FindsClash all sorted None
        → IsDecided ranking m × IsAligned ranking m (map (λ (e : Entry). name_of all e.2) sorted)
    ordered-so none in_order no_clash =
        decided-so s formed bytes m reads ranking all are pairs are_pairs parts joined none
        (told all parts sorted permuted in_order no_clash) (map (λ (e : Entry). name_of all e.2) sorted) is
        (names-rise all parts sorted permuted in_order (ranking m) part_ rank_is part_is no_clash)
      where
        rank_is : (k : ℕ) → k < length all → (ranked_at all k).rank ≡ ranking m (name_of all k)
        rank_is k low = (are.each k low).rank_is

        part_is : (k : ℕ) → k < length all → part_ (name_of all k) ≡ number_at parts k
        part_is k low = part-at s formed bytes m reads ranking all are pairs are_pairs parts joined k low

        is : IsOrder ranking m (map (λ (e : Entry). name_of all e.2) sorted)
        is = record {
          once = none_twice-distinct (map (λ (e : Entry). name_of all e.2) sorted)
              (names-once all parts sorted permuted (own s formed bytes m reads ranking all are));
          all = λ n. (
            λ among.
                let there = stands s formed bytes m reads ranking all are n among in
                let P : ℕ → Type 0 = λ k. Contains (map (λ (e : Entry). name_of all e.2) sorted) k in
                subst P there.is (name-at all parts sorted permuted there.at there.low),
            λ among.
                let (k, low, is_n) = name-is all parts sorted permuted n among in
                let P : ℕ → Type 0 = λ j. Contains (names m) j in
                subst P is_n (member s formed bytes m reads ranking all are k low),
          );
          ascends = names-ascend all parts sorted permuted in_order (ranking m) part_ rank_is part_is no_clash;
        }
