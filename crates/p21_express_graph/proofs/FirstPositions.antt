-- The first places of numbers in runs.
use Rattle.std.specs.Prelude.{◌≡◌, ◌↔◌, ℕ, zero, suc, ◌+◌, ◌<◌, ◌≤◌, Bool, true, false, List, [], ◌∷◌, ◌++◌, Some, length, map, take, slice_get, slice_set, Contains}
use Rattle.std.proofs.Common.{arith, ap, sym, ◌∙◌, subst, inl, inr, get_or}
use Rattle.std.proofs.lemmas.Bool.{cases_eq, cases_lt}
use Rattle.std.proofs.lemmas.List.{get_or-map, get_or-set_other, get_or-set_same}
use Rattle.std.proofs.lemmas.List.Elements.{Contains-get_or}
use Rattle.std.proofs.lemmas.Option.{same_Some, slice_get-get_or, slice_get_within}
use Rattle.p21_spec_basics.proofs.Members.{Contains-at, Contains-found, Contains-none, Contains-cases, Contains-later, some_is}
use Rattle.p21_express_graph.specs.CollectedLists.{IsRisingOf}
use Rattle.p21_express_graph.specs.Indexes.{HaveFirstPositions, IsFirstAt, IsIndex}
use Rattle.p21_express_graph.specs.SettledOrder.{nexts_of}
use Rattle.p21_express_graph.specs.declared.indexes.Index.{Index}
use Rattle.p21_express_graph.specs.declared.above.Above.{Above}
use Rattle.p21_express_graph.proofs.Gatherings.{mapped-length}
use Rattle.p21_express_graph.proofs.Pairs.{snoc-get}

-- ---- places that are noted from the last on

pub none-first : (run places : List ℕ) (from : ℕ) → length run ≤ from → HaveFirstPositions run places from
none-first run places from past k e at up = let below = slice_get_within run k e at in absurd (omega (arith, below, past, up))

pub more-first : (run places : List ℕ) (place x : ℕ) → slice_get run place ≡ Some x → x < length places → HaveFirstPositions run places (place + 1) → HaveFirstPositions run (slice_set places x place) place
more-first run places place x at below so_far k e k_at from = elim (cases_eq e x) [
  | inl same ↦
      let here : get_or (slice_set places x place) x 0 ≡ place = get_or-set_same places x place 0 below in
      let P : ℕ → Type 0 = λ y. (slice_get run (get_or (slice_set places x place) y 0) ≡ Some y) × (get_or (slice_set places x place) y 0 ≤ k) in
      let Q : ℕ → Type 0 = λ p. slice_get run p ≡ Some x in
      subst P (sym same) (subst Q (sym here) at, omega (arith, from, here))
  | inr other ↦
      let there : get_or (slice_set places x place) e 0 ≡ get_or places e 0 = get_or-set_other places x e place 0 other in
      let apart : k ≡ place → ⊥ = λ same. let P : ℕ → Type 0 = λ j. slice_get run j ≡ Some e in other (same_Some e x (sym (subst P same k_at) ∙ at)) in
      let up : place + 1 ≤ k = elim (cases_lt place k) [ inl h ↦ omega (arith, h) | inr h ↦ absurd (apart (omega (arith, h, from))) ] in
      let (is, first) = so_far k e k_at up in
      let Q : ℕ → Type 0 = λ p. slice_get run p ≡ Some e in
      (subst Q (sym there) is, omega (arith, first, there))
]

-- ---- the index of a run

pub index-is : (run seen numbers places found : List ℕ) → seen ≡ run → IsRisingOf seen numbers → HaveFirstPositions run places 0 → found ≡ map (λ e. get_or places e 0) numbers → IsIndex run numbers found
index-is run seen numbers places found seen_is rising_numbers first is = record {
  rising = rising;
  size = ap length is ∙ mapped-length (λ e. get_or places e 0) numbers;
  first = λ k below.
      let e : ℕ = get_or numbers k 0 in
      let (j, at) = Contains-at run e ((rising.same e).0 (Contains-get_or numbers k 0 below)) in
      let place_is : get_or found k 0 ≡ get_or places e 0 = ap (λ xs. get_or xs k 0) is ∙ get_or-map (λ y. get_or places y 0) numbers k 0 0 below in
      let P : ℕ → Type 0 = λ place. IsFirstAt run e place in
      subst P (sym place_is) ((first j e at (omega arith)).0, λ i i_at. (first i e i_at (omega arith)).1);
}
  where
    rising : IsRisingOf run numbers
    rising = let P : List ℕ → Type 0 = λ xs. IsRisingOf xs numbers in subst P seen_is rising_numbers

-- ---- what an index tells

among-prefix : (xs : List ℕ) (k size x : ℕ) → slice_get xs k ≡ Some x → k < size → Contains (take size xs) x
among-prefix [] k size x at below = let low = slice_get_within [] k x at in absurd (omega (arith, low))
among-prefix (y ∷ xs) k zero x at below = absurd (omega (arith, below))
among-prefix (y ∷ xs) zero (suc size) x at below = let same : y ≡ x = cc in (0, omega arith, same)
among-prefix (y ∷ xs) (suc k) (suc size) x at below = Contains-later y (take size xs) x (among-prefix xs k size x at (omega (arith, below)))

prefix-at : (xs : List ℕ) (size x : ℕ) → Contains (take size xs) x → (k : ℕ) × (slice_get xs k ≡ Some x) × (k < size)
prefix-at xs zero x among = absurd (Contains-none x among)
prefix-at [] (suc size) x among = absurd (Contains-none x among)
prefix-at (y ∷ xs) (suc size) x among = elim (Contains-cases y (take size xs) x among) [
  | inl is ↦ (0, ap Some is, omega arith)
  | inr more ↦ let (k, at, below) = prefix-at xs size x more in (suc k, at, omega (arith, below))
]

module _ (run numbers places : List ℕ) (is : IsIndex run numbers places) (number size : ℕ) where
  -- the number stands at a place of the index
  pub told-at : (at : ℕ) → at < length numbers → get_or numbers at 0 ≡ number → (get_or places at 0 < size) ↔ Contains (take size run) number
  told-at at below found =
      let (there, least) = is.first at below in
      let P : ℕ → Type 0 = λ x. slice_get run (get_or places at 0) ≡ Some x in
      let Q : ℕ → Type 0 = λ x. (k : ℕ) → slice_get run k ≡ Some x → get_or places at 0 ≤ k in (
        λ low. among-prefix run (get_or places at 0) size number (subst P found there) low,
        λ among. let (k, k_at, k_below) = prefix-at run size number among in let le = subst Q found least k k_at in omega (arith, le, k_below),
      )

  -- a number of the front is in the index
  pub prefix-known : Contains (take size run) number → Contains numbers number
  prefix-known among = let (k, at, _) = prefix-at run size number among in (is.rising.same number).1 (Contains-found run k number at)

-- ---- one index more

-- a run that is marked has its index
abbrev pub IsIndexWhere : List (List ℕ) → List Bool → ℕ → Index → Type 0
IsIndexWhere runs used r x = get_or used r false ≡ true → IsIndex (nexts_of runs r) x.numbers.items x.places.items

pub index-more : (runs : List (List ℕ)) (used : List Bool) (indexes after : List Index) (index : Index) → after ≡ indexes ++ index ∷ [] → ((r : ℕ) (x : Index) → slice_get indexes r ≡ Some x → IsIndexWhere runs used r x)
    → IsIndexWhere runs used (length indexes) index → (r : ℕ) (x : Index) → slice_get after r ≡ Some x → IsIndexWhere runs used r x
index-more runs used indexes after index after_is are is r x at = elim (snoc-get indexes index r x (ap (λ xs. slice_get xs r) (sym after_is) ∙ at)) [
  | inl old ↦ are r x old
  | inr new ↦
      let P : ℕ → Type 0 = λ n. IsIndexWhere runs used n x in
      let Q : Index → Type 0 = λ i. IsIndexWhere runs used (length indexes) i in
      subst P (sym new.0) (subst Q (sym new.1) is)
]

-- ---- runs that are marked

-- the runs of the first fronts are marked
abbrev pub AreMarked : List Above → ℕ → List Bool → Type 0
AreMarked all count used = (k : ℕ) (above : Above) → k < count → slice_get all k ≡ Some above → get_or used above.front.run false ≡ true

pub mark-more : (all : List Above) (count : ℕ) (used : List Bool) (next : Above) → slice_get all count ≡ Some next → next.front.run < length used → AreMarked all count used → AreMarked all (count + 1) (slice_set used next.front.run true)
mark-more all count used next next_at below are k above k_low at = elim (cases_eq above.front.run next.front.run) [
  | inl same ↦ ap (λ r. get_or (slice_set used next.front.run true) r false) same ∙ get_or-set_same used next.front.run true false below
  | inr other ↦ get_or-set_other used next.front.run above.front.run true false other ∙ are k above (elim (cases_eq k count) [
    | inl last ↦
        let P : ℕ → Type 0 = λ n. slice_get all n ≡ Some above in
        let same : next ≡ above = some_is next above (sym next_at ∙ subst P last at) in
        absurd (other (ap (λ x. x.front.run) (sym same)))
    | inr before ↦ omega (arith, k_low, lt-from k count k_low before)
  ]) at
]
  where
    lt-from : (k count : ℕ) → k < count + 1 → (k ≡ count → ⊥) → k < count
    lt-from k count low differ = elim (cases_lt k count) [ inl h ↦ h | inr h ↦ absurd (differ (omega (arith, h, low))) ]
