-- The lines of a section by rising names, and blocks of them.
use Rattle.std.specs.Prelude.{◌≡◌, ◌≤◌, ◌<◌, ◌+◌, ℕ, suc, List, [], ◌∷◌, map, length, filter, nat_eq, refl, slice_get, Some, Contains, Bool, true, false, cond}
use Rattle.std.specs.List.{IsDistinct, range_with_len}
use Rattle.std.specs.List.Sorted.{IsNonDecreasingBy, IsPermutation, IsStrictlySortedBy}
use Rattle.std.specs.Ordering.{nat_cmp}
use Rattle.std.proofs.Common.{arith, ap, sym, subst, ◌∙◌, inl, inr, Less}
use Rattle.std.proofs.lemmas.Bool.{eq-eqb, eqb-true}
use Rattle.std.proofs.lemmas.Bool.Decides.{eqb_tells}
use Rattle.std.specs.Cmp.{nat_cmp_is}
use Rattle.std.proofs.lemmas.List.FromFn.{get_or-range_with_len, length-range_with_len}
use Rattle.std.proofs.lemmas.List.Sorted.{Contains-permutation, IsPermutation-map, IsPermutation-sym, length_permutation}
use Rattle.std.proofs.lemmas.Map.Keys.{IsDistinct-IsPermutation}
use Rattle.std.proofs.lemmas.Option.{slice_get_within}
use Rattle.std.proofs.lemmas.Slice.Zip.{AllZip-long}
use Rattle.p21_spec_basics.proofs.Members.{AllZip-member, AllZip-second_member, Contains-cases, Contains-filter, Contains-mapped, Contains-none, Contains-unfiltered, Contains-unmapped, Each-of_members}
use Rattle.p21_spec_basics.proofs.RisingLists.{Rises, mapped-rises}
use Rattle.p21_spec_basics.proofs.Shuffles.{NoneTwice, distinct-none_twice, none_twice-distinct}
use Rattle.p21_spec_laws.specs.CompleteFile.{Block, Entry, Line}
use Rattle.p21_spec_laws.proofs.Growth.{names-of_unrefused}
use Rattle.p21_spec_laws.proofs.Storing.{numbered-entries}
use Rattle.p21_spec_laws.specs.UnrefusedStatements.{numbered_entries_in}
use Rattle.p21_spec_laws.specs.Keeping.{IsBlockAt}
use Rattle.p21_spec_laws.specs.OutputLaws.{BlocksBySections, StoredNamesDiffer, LinesBySection, stored_at}
use Rattle.p21_spec_laws.specs.Stored.{KeptLines, StoredEntry, lines_of, stored_in, stored_of}
use Rattle.p21_spec_exchange.specs.DataSection.{Heading}
use Rattle.p21_spec_basics.proofs.Comparing.{nat_eq-turned}

-- ---- names that differ

abbrev names_of : List StoredEntry → List ℕ
names_of stored = map (λ (x : StoredEntry). x.name) stored

names-shuffled : (xs ys : List StoredEntry) → IsPermutation xs ys → IsDistinct nat_eq (names_of xs) → IsDistinct nat_eq (names_of ys)
names-shuffled xs ys are differ = IsDistinct-IsPermutation nat_eq nat_eq-turned (names_of xs) (names_of ys) (IsPermutation-map (λ (x : StoredEntry). x.name) xs ys are) differ

stored-names : (lines : KeptLines) (ps : List (ℕ × Entry)) → names_of (map (stored_of lines) ps) ≡ map (λ (e : Entry). e.name) (map (λ (p : ℕ × Entry). p.1) ps)
stored-names lines [] = refl
stored-names lines (p ∷ ps) = ap (λ (ns : List ℕ). p.1.name ∷ ns) (stored-names lines ps)

pub keeps-names_differ : StoredNamesDiffer
keeps-names_differ s limits given kept keeps =
    let same = names-of_unrefused s limits given keeps.groups keeps.unrefused ∙ ap (map (λ (e : Entry). e.name)) (sym (numbered-entries keeps.groups)) ∙ sym (stored-names kept.lines (numbered_entries_in keeps.groups)) in
    names-shuffled (stored_in kept.lines keeps.groups) kept.stored keeps.store (subst (IsDistinct nat_eq) same keeps.unrefused.names_differ)

-- ---- the lines of a section

filter-passes : {X : Type 0} (test : X → Bool) (xs : List X) (y : X) → Contains (filter test xs) y → test y ≡ true
filter-passes test [] y among = absurd (Contains-none y among)
filter-passes test (x ∷ xs) y among = by test x xs y (test x) refl (filter-passes test xs y) among
  where
    by : {X : Type 0} (test : X → Bool) (x : X) (xs : List X) (y : X) (b : Bool) → test x ≡ b → (Contains (filter test xs) y → test y ≡ true) → Contains (cond b (x ∷ filter test xs) (filter test xs)) y → test y ≡ true
    by test x xs y true is rest found = elim (Contains-cases x (filter test xs) y found) [ inl h ↦ ap test (sym h) ∙ is | inr h ↦ rest h ]
    by test x xs y false is rest found = rest found

-- what is filtered has names that differ where all have
filtered-once : (test : StoredEntry → Bool) (xs : List StoredEntry) → NoneTwice (names_of xs) → NoneTwice (names_of (filter test xs))
filtered-once test [] none = tt
filtered-once test (x ∷ xs) none = by (test x) (filtered-once test xs none.1)
  where
    by : (b : Bool) → NoneTwice (names_of (filter test xs)) → NoneTwice (names_of (cond b (x ∷ filter test xs) (filter test xs)))
    by true rest = (
      λ among. none.0 (
          let (y, at, is) = Contains-unmapped (λ (z : StoredEntry). z.name) (filter test xs) x.name among in
          let P : ℕ → Type 0 = λ n. Contains (names_of xs) n in
          subst P is (Contains-mapped (λ (z : StoredEntry). z.name) xs y (Contains-unfiltered test xs y at))
          ),
      rest,
    )
    by false rest = rest

-- names in order that differ rise
sorted-rises : (xs : List StoredEntry) → NoneTwice (names_of xs) → IsNonDecreasingBy (λ (x : StoredEntry). x.name) xs → Rises nat_cmp (λ (x : StoredEntry). x.name) xs
sorted-rises [] none sorted = tt
sorted-rises (x ∷ xs) none sorted = (
  Each-of_members (λ (y : StoredEntry). nat_cmp x.name y.name ≡ Less) xs (λ y among. above y among),
  sorted-rises xs none.1 (λ i j d before below. sorted (suc i) (suc j) d (omega (arith, before)) (omega (arith, below))),
)
  where
    above : (y : StoredEntry) → Contains xs y → nat_cmp x.name y.name ≡ Less
    above y (k, below, is) =
        let least = sorted 0 (suc k) y (omega arith) (omega (arith, below)) in
        let same = ap (λ (z : StoredEntry). z.name) is in
        let differ : x.name ≡ y.name → ⊥ = λ e. none.0 (let P : ℕ → Type 0 = λ n. Contains (names_of xs) n in subst P (sym e) (Contains-mapped (λ (z : StoredEntry). z.name) xs y (k, below, is))) in
        let less : x.name < y.name = strictly x.name y.name (omega (arith, least, same)) differ in
        sym (nat_cmp_is x.name y.name Less less)
      where
        strictly : (a b : ℕ) → a ≤ b → (a ≡ b → ⊥) → a < b
        strictly a b within differ = elim (eqb_tells a b) [ inl (equal, e) ↦ absurd (differ e) | inr (other, apart) ↦ omega (arith, within, apart) ]

lines-names : (xs : List StoredEntry) → names_of xs ≡ map (λ (l : Line). l.0) (lines_of xs)
lines-names [] = refl
lines-names (x ∷ xs) = ap (λ (ns : List ℕ). x.name ∷ ns) (lines-names xs)

pub lines-by_section : LinesBySection
lines-by_section stored differ number own are sorted = ((onto, back), subst (IsStrictlySortedBy nat_cmp) (lines-names own) (mapped-rises nat_cmp (λ (x : StoredEntry). x.name) own (sorted-rises own once sorted)))
  where
    once : NoneTwice (names_of own)
    once =
        let first : NoneTwice (names_of (stored_at number stored)) = filtered-once (λ (x : StoredEntry). nat_eq x.section number) stored (distinct-none_twice (names_of stored) differ) in
        distinct-none_twice (names_of own) (names-shuffled (stored_at number stored) own are (none_twice-distinct (names_of (stored_at number stored)) first))

    onto : (x : StoredEntry) → Contains stored x → x.section ≡ number → Contains (lines_of own) (x.name, x.text)
    onto x among at = Contains-mapped (λ (y : StoredEntry). (y.name, y.text)) own x (Contains-permutation (stored_at number stored) own x are (Contains-filter (λ (y : StoredEntry). nat_eq y.section number) stored x (eq-eqb x.section number at) among))

    back : (l : Line) → Contains (lines_of own) l → (x : StoredEntry) × Contains stored x × (x.section ≡ number) × ((x.name, x.text) ≡ l)
    back l among =
        let (x, at, is) = Contains-unmapped {Y = Line} (λ (y : StoredEntry). (y.name, y.text)) own l among in
        let found = Contains-permutation own (stored_at number stored) x (IsPermutation-sym (stored_at number stored) own are) at in
        (x, Contains-unfiltered (λ (y : StoredEntry). nat_eq y.section number) stored x found, eqb-true x.section number (filter-passes (λ (y : StoredEntry). nat_eq y.section number) stored x found), is)

-- ---- blocks

pub blocks-by_sections : BlocksBySections
blocks-by_sections kept numbers blocks are all rise lines = record {
  as_many = AllZip-long (IsBlockAt kept) numbers blocks all ∙ length_permutation (range_with_len 0 (length kept.headings)) numbers are ∙ length-range_with_len 0 (length kept.headings);
  each_block = Each-of_members (λ (b : Block). (number : ℕ) × IsBlockAt kept number b) blocks (λ b among. let (number, at, is) = AllZip-second_member (IsBlockAt kept) numbers blocks b all among in (number, is));
  each_section = each;
  sections_rise = rise;
  lines_rise = lines;
}
  where
    each : (number : ℕ) (heading : Heading) → slice_get kept.headings number ≡ Some heading → (b : Block) × Contains blocks b × IsBlockAt kept number b
    each number heading at =
        let below = slice_get_within kept.headings number heading at in
        let place : 0 + number ≡ number = omega arith in
        let size = length-range_with_len 0 (length kept.headings) in
        AllZip-member (IsBlockAt kept) numbers blocks number all
        (Contains-permutation (range_with_len 0 (length kept.headings)) numbers number are (number, omega (arith, below, size), get_or-range_with_len 0 (length kept.headings) number number below ∙ place))
