-- Entries in order, with no clash between neighbours, give an order that counts copies in one sequence.
use Rattle.std.specs.Prelude.{◌≡◌, ◌≢◌, ◌⊎◌, ◌≤◌, ◌<◌, ◌+◌, ℕ, suc, false, List, [], ◌∷◌, map, length, nat_eq, Some, None, Contains, refl}
use Rattle.std.specs.List.{range_with_len, AllByRecursion as Each}
use Rattle.std.specs.List.Sorted.{IsPermutation, IsSorted}
use Rattle.std.specs.Cmp.{nat_cmp_is}
use Rattle.std.specs.Ordering.{nat_cmp, is_lt, ordering_then}
use Rattle.std.proofs.Common.{Ordering, Less, Equal, arith, ap, sym, subst, ◌∙◌, inl, inr, map-id, true≢false}
use Rattle.std.proofs.lemmas.Bool.{cases_eq}
use Rattle.std.proofs.lemmas.Bool.Decides.{nat_tests}
use Rattle.std.proofs.lemmas.List.Elements.{Contains-get_or}
use Rattle.std.proofs.lemmas.List.Sorted.{Contains-permutation, IsPermutation-map, IsPermutation-sym}
use Rattle.std.proofs.lemmas.Map.Keys.{IsDistinct-IsPermutation}
use Rattle.p21_spec_basics.proofs.Members.{Contains-none, Contains-first, Contains-later, Contains-cases, Contains-mapped, Contains-unmapped, Each-mapped, Each-member, Each-of_members, Each-weaker}
use Rattle.p21_spec_basics.proofs.Shuffles.{NoneTwice, distinct-none_twice, none_twice-distinct}
use Rattle.p21_spec_numbering.proofs.Lists.{map-mapped}
use Rattle.p21_spec_numbering.proofs.Moved.{none_twice-mapped}
use Rattle.p21_spec_numbering.specs.Copies.{RisesByPart}
use Rattle.p21_spec_numbering.specs.Ordered.{Ascends}
use Rattle.p21_numbering.proofs.Counts.{Contains-range, range-below, range-none_twice}
use Rattle.p21_numbering.specs.Arrays.{Entry, entry_cmp}
use Rattle.p21_numbering.specs.Joining.{number_at}
use Rattle.p21_numbering.specs.Ordering.{FindsClash, NoClash, entries_of, entry_at, entry_of}
use Rattle.p21_numbering.specs.Ranked.{Ranked, name_of, names_of, no_instance, ranked_at}
use Rattle.p21_numbering.proofs.Decisions.{once-at}

-- ---- neighbours

either : (x y : ℕ) → (x ≤ y) ⊎ (y < x)
either x y = grind arith

first-low : (e f : Entry) → is_lt (entry_cmp f e) ≡ false → e.0 ≤ f.0
first-low e f not_ = elim (either e.0 f.0) [
  | inl up ↦ up
  | inr down ↦
      let below : Less ≡ nat_cmp f.0 e.0 = nat_cmp_is f.0 e.0 Less down in
      absurd (true≢false (ap (λ (o : Ordering). is_lt (ordering_then (ordering_then o (nat_cmp f.1 e.1)) (nat_cmp f.2 e.2))) below ∙ not_))
]

second-low : (e f : Entry) → is_lt (entry_cmp f e) ≡ false → e.0 ≡ f.0 → e.1 ≤ f.1
second-low e f not_ same = elim (either e.1 f.1) [
  | inl up ↦ up
  | inr down ↦
      let equal : Equal ≡ nat_cmp f.0 e.0 = nat_cmp_is f.0 e.0 Equal (sym same) in
      let below : Less ≡ nat_cmp f.1 e.1 = nat_cmp_is f.1 e.1 Less down in
      absurd (true≢false (ap (λ (o : Ordering). is_lt (ordering_then (ordering_then Equal o) (nat_cmp f.2 e.2))) below
      ∙ ap (λ (o : Ordering). is_lt (ordering_then (ordering_then o (nat_cmp f.1 e.1)) (nat_cmp f.2 e.2))) equal ∙ not_))
]

-- the first has no higher rank, and in one rank its part has a lower number and it says the same
record IsLower (all : List Ranked) (e f : Entry) : Type 0 where
  rank : e.0 ≤ f.0
  part : e.0 ≡ f.0 → e.1 < f.1
  said : e.0 ≡ f.0 → (ranked_at all e.2).said ≡ (ranked_at all f.2).said

lower-then : (all : List Ranked) (e f g : Entry) → IsLower all e f → IsLower all f g → IsLower all e g
lower-then all e f g low low_ = record {
  rank = omega (arith, low.rank, low_.rank);
  part = λ same. let one = low.part (omega (arith, low.rank, low_.rank, same)) in let two =
      low_.part (omega (arith, low.rank, low_.rank, same)) in omega (arith, one, two);
  said = λ same. low.said (omega (arith, low.rank, low_.rank, same)) ∙ low_.said (omega (arith, low.rank, low_.rank, same));
}

lower-next : (all : List Ranked) (e f : Entry) → is_lt (entry_cmp f e) ≡ false → NoClash all e f → IsLower all e f
lower-next all e f not_ none = record {
  rank = first-low e f not_;
  part = λ same. let up = second-low e f not_ same in let differ = (none same).0 in omega (arith, up, differ);
  said = λ same. (none same).1;
}

-- each is lower than those behind it
abbrev AreLower : List Ranked → List Entry → Type 0
AreLower all [] = Unit {0}
AreLower all (e ∷ es) = Each (λ f. IsLower all e f) es × AreLower all es

all-lower : (all : List Ranked) (es : List Entry) → ((k : ℕ) → k + 1 < length es → IsLower all (entry_at es k) (entry_at es (k + 1)))
    → AreLower all es
all-lower all [] next = tt
all-lower all (e ∷ []) next = (tt, tt)
all-lower all (e ∷ f ∷ es) next =
    let first : IsLower all e f = next 0 (omega arith) in
    let rest = all-lower all (f ∷ es) (λ k low.
    let same : suc k + 1 ≡ suc (k + 1) = omega arith in
    let P : ℕ → Type 0 = λ j. IsLower all (entry_at (f ∷ es) k) (entry_at (e ∷ f ∷ es) j) in
    subst P same (next (suc k) (omega (arith, low)))) in
    ((first, Each-weaker (λ g. IsLower all f g) (λ g. IsLower all e g) (λ g low. lower-then all e f g first low) es rest.0), rest)

two-lower : (all : List Ranked) (es : List Entry) → AreLower all es → (e f : Entry) → Contains es e → Contains es f → e.2 ≢ f.2 → e.0 ≡ f.0
    → (e.1 ≢ f.1) × ((ranked_at all e.2).said ≡ (ranked_at all f.2).said)
two-lower all [] lower e f among among_ differ same = absurd (Contains-none e among)
two-lower all (x ∷ xs) lower e f among among_ differ same = elim (Contains-cases x xs e among) [
  | inl here ↦ elim (Contains-cases x xs f among_) [
    | inl here_ ↦ absurd (differ (ap (λ (g : Entry). g.2) (sym here ∙ here_)))
    | inr there_ ↦
        let P : Entry → Type 0 = λ g. IsLower all g f in
        let low = subst P here (Each-member (λ g. IsLower all x g) xs f lower.0 there_) in
        let strict = low.part same in
        ((λ equal. let no : e.1 < f.1 = strict in absurd (omega (arith, no, equal))), low.said same)
  ]
  | inr there ↦ elim (Contains-cases x xs f among_) [
    | inl here_ ↦
        let P : Entry → Type 0 = λ g. IsLower all g e in
        let low = subst P here_ (Each-member (λ g. IsLower all x g) xs e lower.0 there) in
        let strict = low.part (sym same) in
        ((λ equal. let no : f.1 < e.1 = strict in absurd (omega (arith, no, equal))), sym (low.said (sym same)))
    | inr there_ ↦ two-lower all xs lower.1 e f there there_ differ same
  ]
]

-- ---- a clash, and none so far

pub clash-at : (all : List Ranked) (sorted : List Entry) (k next : ℕ) → k + 1 ≡ next → next < length sorted
    → ¬ NoClash all (entry_at sorted k) (entry_at sorted next)
    → FindsClash all sorted (Some ((entry_at sorted k).2, (entry_at sorted next).2))
clash-at all sorted k next is low clash =
    let P : ℕ → Type 0 = λ j. j < length sorted → ¬ NoClash all (entry_at sorted k) (entry_at sorted j)
    → FindsClash all sorted (Some ((entry_at sorted k).2, (entry_at sorted j).2)) in
    subst P is (λ low_ clash_. (k, low_, refl, clash_)) low clash

pub no-clash_more : (all : List Ranked) (sorted : List Entry) (k next : ℕ) → k + 1 ≡ next
    → ((i : ℕ) → i + 1 < next → NoClash all (entry_at sorted i) (entry_at sorted (i + 1)))
    → NoClash all (entry_at sorted k) (entry_at sorted next) → (i : ℕ) → i + 1 < next + 1
    → NoClash all (entry_at sorted i) (entry_at sorted (i + 1))
no-clash_more all sorted k next is so_far last i low = elim (cases_eq i k) [
  | inl same ↦
      let P : ℕ → Type 0 = λ j. NoClash all (entry_at sorted j) (entry_at sorted (j + 1)) in
      let Q : ℕ → Type 0 = λ j. NoClash all (entry_at sorted k) (entry_at sorted j) in
      subst P (sym same) (subst Q (sym is) last)
  | inr other ↦ so_far i (omega (arith, low, is, other))
]

-- the same of instances that are equal
pub clash-between : (e f : Entry) (r q r_ q_ : Ranked) → r ≡ r_ → q ≡ q_ → (e.0 ≡ f.0 → (e.1 ≢ f.1) × (r.said ≡ q.said)) → e.0 ≡ f.0
    → (e.1 ≢ f.1) × (r_.said ≡ q_.said)
clash-between e f r q r_ q_ is is_ none same = (
  (none same).0,
  sym (ap (λ (x : Ranked). x.said) is) ∙ (none same).1
      ∙ ap (λ (x : Ranked). x.said) is_,
)

-- ---- the names of entries

module _ (all : List Ranked) (r part : ℕ → ℕ) where
  -- the rank and the part of its instance
  pub record IsOf (e : Entry) : Type 0 where
    pub rank : r (name_of all e.2) ≡ e.0
    pub in_part : part (name_of all e.2) ≡ e.1

  abbrev name : Entry → ℕ
  name e = name_of all e.2

  ascends : (es : List Entry) → ((e : Entry) → Contains es e → IsOf e) → AreLower all es → Ascends r (map name es)
  ascends [] of lower = tt
  ascends (e ∷ es) of lower = (
    Each-mapped (λ n. r (name e) ≤ r n) name es (Each-of_members (λ f. r (name e) ≤ r (name f)) es (λ f among.
        let low = Each-member (λ g. IsLower all e g) es f lower.0 among in
        let first = of e (Contains-first e es) in
        let second = of f (Contains-later e es f among) in
        omega (arith, low.rank, first.rank, second.rank))),
    ascends es (λ f among. of f (Contains-later e es f among)) lower.1,
  )

  rises : (es : List Entry) → ((e : Entry) → Contains es e → IsOf e) → AreLower all es → RisesByPart r part (map name es)
  rises [] of lower = tt
  rises (e ∷ es) of lower = (
    Each-mapped (λ n. r (name e) ≡ r n → part (name e) < part n) name es
        (Each-of_members (λ f. r (name e) ≡ r (name f) → part (name e) < part (name f)) es (λ f among same.
        let low = Each-member (λ g. IsLower all e g) es f lower.0 among in
        let first = of e (Contains-first e es) in
        let second = of f (Contains-later e es f among) in
        let strict : e.1 < f.1 = low.part (sym first.rank ∙ same ∙ second.rank) in
        omega (arith, strict, first.in_part, second.in_part))),
    rises es (λ f among. of f (Contains-later e es f among)) lower.1,
  )

module _ (all : List Ranked) (parts : List ℕ) (sorted : List Entry) (permuted : IsPermutation (entries_of all parts) sorted) where
  pub entry-among : (k : ℕ) → k < length all → Contains sorted (entry_of all parts k)
  entry-among k low = Contains-permutation (entries_of all parts) sorted (entry_of all parts k) permuted
      (Contains-mapped (entry_of all parts) (range_with_len 0 (length all)) k (Contains-range (length all) k low))

  pub entry-is : (e : Entry) → Contains sorted e → (e.2 < length all) × (e ≡ entry_of all parts e.2)
  entry-is e among =
      let back = IsPermutation-sym (entries_of all parts) sorted permuted in
      let (k, at, is) = Contains-unmapped (entry_of all parts) (range_with_len 0 (length all)) e
      (Contains-permutation sorted (entries_of all parts) e back among) in
      let same : k ≡ e.2 = ap (λ (f : Entry). f.2) is in
      (omega (arith, same, range-below (length all) k at), sym is ∙ ap (entry_of all parts) same)

  positions-once : NoneTwice (map (λ (e : Entry). e.2) sorted)
  positions-once =
      let own : map (λ (e : Entry). e.2) (entries_of all parts) ≡ range_with_len 0 (length all) =
      map-mapped (λ (e : Entry). e.2) (entry_of all parts) (range_with_len 0 (length all)) ∙ map-id (range_with_len 0 (length all)) in
      let P : List ℕ → Type 0 = λ ks. NoneTwice ks in
      let before : NoneTwice (map (λ (e : Entry). e.2) (entries_of all parts)) = subst P (sym own) (range-none_twice (length all)) in
      distinct-none_twice (map (λ (e : Entry). e.2) sorted)
      (IsDistinct-IsPermutation nat_eq (λ x y. grind (arith, nat_tests)) (map (λ (e : Entry). e.2) (entries_of all parts))
      (map (λ (e : Entry). e.2) sorted) (IsPermutation-map (λ (e : Entry). e.2) (entries_of all parts) sorted permuted)
      (none_twice-distinct (map (λ (e : Entry). e.2) (entries_of all parts)) before))

  -- the names of the entries, each once
  pub names-once : NoneTwice (names_of all) → NoneTwice (map (λ (e : Entry). name_of all e.2) sorted)
  names-once own =
      let P : List ℕ → Type 0 = λ ks. NoneTwice ks in
      subst P (map-mapped (name_of all) (λ (e : Entry). e.2) sorted)
      (none_twice-mapped (name_of all) (map (λ (e : Entry). e.2) sorted)
      (λ j k among among_ same. once-at (λ (r : Ranked). r.name) no_instance all own j k (below j among) (below k among_) same)
      positions-once)
    where
      below : (k : ℕ) → Contains (map (λ (e : Entry). e.2) sorted) k → k < length all
      below k among =
          let (e, at, is) = Contains-unmapped (λ (e : Entry). e.2) sorted k among in
          let (low, own_) = entry-is e at in
          omega (arith, low, is)

  pub name-at : (k : ℕ) → k < length all → Contains (map (λ (e : Entry). name_of all e.2) sorted) (name_of all k)
  name-at k low = Contains-mapped (λ (e : Entry). name_of all e.2) sorted (entry_of all parts k) (entry-among k low)

  pub name-is : (n : ℕ) → Contains (map (λ (e : Entry). name_of all e.2) sorted) n → (k : ℕ) × (k < length all) × (name_of all k ≡ n)
  name-is n among =
      let (e, at, is) = Contains-unmapped (λ (e : Entry). name_of all e.2) sorted n among in
      (e.2, (entry-is e at).0, is)

  module _ (in_order : IsSorted entry_cmp sorted) where
    no-clash_lower : FindsClash all sorted None → AreLower all sorted
    no-clash_lower none = all-lower all sorted (λ k low. lower-next all (entry_at sorted k) (entry_at sorted (k + 1))
        (in_order k (0, 0, 0) (omega arith) low) (none k low))

    pub told : FindsClash all sorted None → (j k : ℕ) → j < length all → k < length all → j ≢ k
        → (ranked_at all j).rank ≡ (ranked_at all k).rank
        → (number_at parts j ≢ number_at parts k) × ((ranked_at all j).said ≡ (ranked_at all k).said)
    told none j k low low_ differ same = two-lower all sorted (no-clash_lower none) (entry_of all parts j) (entry_of all parts k)
        (entry-among j low) (entry-among k low_) differ same

    module _ (r part : ℕ → ℕ) (rank_is : (k : ℕ) → k < length all → (ranked_at all k).rank ≡ r (name_of all k))
        (part_is : (k : ℕ) → k < length all → part (name_of all k) ≡ number_at parts k) where
      of-all : (e : Entry) → Contains sorted e → IsOf all r part e
      of-all e among =
          let (low, is) = entry-is e among in
          record {
            rank = sym (rank_is e.2 low) ∙ sym (ap (λ (f : Entry). f.0) is);
            in_part = part_is e.2 low
                ∙ sym (ap (λ (f : Entry). f.1) is);
          }

      pub names-ascend : FindsClash all sorted None → Ascends r (map (λ (e : Entry). name_of all e.2) sorted)
      names-ascend none = ascends all r part sorted of-all (no-clash_lower none)

      pub names-rise : FindsClash all sorted None → RisesByPart r part (map (λ (e : Entry). name_of all e.2) sorted)
      names-rise none = rises all r part sorted of-all (no-clash_lower none)

  -- two that clash have one rank, and are in one part or say different things
  pub record AreClashing (j k : ℕ) : Type 0 where
    pub low : j < length all
    pub low_other : k < length all
    pub differ : j ≢ k
    pub one_rank : (ranked_at all j).rank ≡ (ranked_at all k).rank
    pub why : (number_at parts j ≡ number_at parts k) ⊎ ((ranked_at all j).said ≢ (ranked_at all k).said)

  pub clashing : (found : ℕ × ℕ) → FindsClash all sorted (Some found) → AreClashing found.0 found.1
  clashing found (a, below, is, clash) =
      let e : Entry = entry_at sorted a in
      let f : Entry = entry_at sorted (a + 1) in
      let among : Contains sorted e = Contains-get_or sorted a (0, 0, 0) (omega (arith, below)) in
      let among_ : Contains sorted f = Contains-get_or sorted (a + 1) (0, 0, 0) below in
      let (low, own) = entry-is e among in
      let (low_, own_) = entry-is f among_ in
      let first : found.0 ≡ e.2 = ap (λ (p : ℕ × ℕ). p.0) is in
      let second : found.1 ≡ f.2 = ap (λ (p : ℕ × ℕ). p.1) is in
      let J : ℕ → Type 0 = λ j. AreClashing j found.1 in
      let K : ℕ → Type 0 = λ k. AreClashing e.2 k in
      let same_rank : e.0 ≡ f.0 = elim (cases_eq e.0 f.0) [ inl same ↦ same | inr other ↦ absurd (clash (λ same. absurd (other same))) ] in
      subst J (sym first) (subst K (sym second) (record {
        low = low;
        low_other = low_;
        differ = λ same. let one : a ≡ a + 1 = once-at (λ (g : Entry). g.2) (0, 0, 0) sorted positions-once a (a + 1) (omega (arith, below))
            below same in omega (arith, one);
        one_rank = sym (ap (λ (g : Entry). g.0) own) ∙ same_rank ∙ ap (λ (g : Entry). g.0) own_;
        why = elim (cases_eq e.1 f.1) [
          | inl equal ↦ inl (sym (ap (λ (g : Entry). g.1) own) ∙ equal ∙ ap (λ (g : Entry). g.1) own_)
          | inr other ↦ inr (λ said. clash (λ same. (other, said)))
        ];
      }))
