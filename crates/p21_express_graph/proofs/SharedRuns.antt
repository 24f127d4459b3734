-- Lists that are the fronts of runs.
use Rattle.std.specs.Prelude.{◌≡◌, ◌⊎◌, ℕ, zero, suc, ◌+◌, ◌<◌, ◌≤◌, List, [], ◌∷◌, ◌++◌, Some, None, length, map, take, slice_get, slice_set, Contains, refl}
use Rattle.std.specs.List.{AllByRecursion as Each}
use Rattle.std.proofs.Common.{arith, ap, sym, ◌∙◌, subst, inl, inr, length-append}
use Rattle.std.proofs.lemmas.Bool.{cases_eq}
use Rattle.std.proofs.lemmas.List.{length-set, take-append-le, take_all}
use Rattle.std.proofs.lemmas.Option.{slice_get-map}
use Rattle.std.specs.Option.{option_map}
use Rattle.p21_spec_basics.proofs.Members.{Contains-none, Each-at, Each-weaker, some_is}
use Rattle.p21_express_graph.specs.Prefixes.{AreBelow, BeginsWith, IsEmptyPrefix, IsRunPrefix, list_of}
use Rattle.p21_express_graph.specs.SettledOrder.{nexts_of}
use Rattle.p21_express_graph.specs.declared.prefixes.RunPrefix.{RunPrefix}
use Rattle.p21_express_graph.proofs.OrderTables.{map-set, nexts-empty, set-other, set-same}

-- each of these fronts lies in one of the runs
abbrev pub AreWithin : List (List ℕ) → List RunPrefix → Type 0
AreWithin runs prefixes = (k : ℕ) (front : RunPrefix) → slice_get prefixes k ≡ Some front → IsRunPrefix runs front

-- ---- fronts with no entity

pub bare-within : (runs : List (List ℕ)) (prefixes : List RunPrefix) → 0 < length runs → Each IsEmptyPrefix prefixes → AreWithin runs prefixes
bare-within runs prefixes some bare k front at =
    let is = Each-at IsEmptyPrefix prefixes k front bare at in
    let first : front.run ≡ 0 = is.0 in
    let none : front.size ≡ 0 = is.1 in
    (omega (arith, first, some), omega (arith, none))

pub bare-empty : (runs : List (List ℕ)) (prefixes : List RunPrefix) → Each IsEmptyPrefix prefixes → (x : ℕ) → nexts_of (map (list_of runs) prefixes) x ≡ []
bare-empty runs prefixes bare = nexts-empty (list_of runs) prefixes (Each-weaker _ _ (λ front is. ap (λ n. take n (nexts_of runs front.run)) is.1) prefixes bare)

-- runs with no number
pub empty-below : {X : Type 0} (items : X → List ℕ) (runs : List X) → Each (λ run. items run ≡ []) runs → (count : ℕ) → AreBelow count (map items runs)
empty-below items runs empty count r e among = let P : List ℕ → Type 0 = λ es. Contains es e in absurd (Contains-none e (subst P (nexts-empty items runs empty r) among))

-- a number that isn't none is above it
pub not-none : (n : ℕ) → (n ≡ 0 → ⊥) → 0 < n
not-none zero some = absurd (some refl)
not-none (suc n) some = omega arith

-- ---- the list of a number

pub prefix-list : (runs : List (List ℕ)) (prefixes : List RunPrefix) (number : ℕ) (front : RunPrefix) → slice_get prefixes number ≡ Some front → nexts_of (map (list_of runs) prefixes) number ≡ list_of runs front
prefix-list runs prefixes number front at = ap (λ o. elim o [ Some nexts ↦ nexts | None ↦ [] ]) (slice_get-map (list_of runs) prefixes number ∙ ap (option_map (list_of runs)) at)

-- ---- a list more

pub set-get : {X : Type 0} (xs : List X) (number k : ℕ) (new x : X) → slice_get (slice_set xs number new) k ≡ Some x → ((k ≡ number) × (x ≡ new)) ⊎ (slice_get xs k ≡ Some x)
set-get [] number k new x at = inr at
set-get (y ∷ xs) zero zero new x at = inl (refl, sym (some_is new x at))
set-get (y ∷ xs) zero (suc k) new x at = inr at
set-get (y ∷ xs) (suc number) zero new x at = inr at
set-get (y ∷ xs) (suc number) (suc k) new x at = elim (set-get xs number k new x at) [
  | inl h ↦ inl (ap suc h.0, h.1)
  | inr old ↦ inr old
]

-- each list of these runs stands in others too
abbrev pub AreUnchanged : List (List ℕ) → List (List ℕ) → Type 0
AreUnchanged runs after = (r size : ℕ) → r < length runs → size ≤ length (nexts_of runs r) → (r < length after) × (size ≤ length (nexts_of after r)) × (take size (nexts_of after r) ≡ take size (nexts_of runs r))

-- the last run is the list
abbrev pub IsNew : List (List ℕ) → RunPrefix → List ℕ → Type 0
IsNew after new list = (new.run < length after) × (nexts_of after new.run ≡ list) × (new.size ≡ length list)

module _ (runs after : List (List ℕ)) (prefixes : List RunPrefix) (number : ℕ) (new : RunPrefix) (list : List ℕ) (are : AreWithin runs prefixes) (kept : AreUnchanged runs after) (is : IsNew after new list) where
  pub put-within : AreWithin after (slice_set prefixes number new)
  put-within k front at = elim (set-get prefixes number k new front at) [
    | inl same ↦ let P : RunPrefix → Type 0 = λ f. IsRunPrefix after f in subst P (sym same.1) (is.0, omega (arith, is.2, ap length is.1))
    | inr old ↦ let (below, within) = are k front old in let (r_below, s_within, _) = kept front.run front.size below within in (r_below, s_within)
  ]

  same-lists : (fs : List RunPrefix) → ((k : ℕ) (front : RunPrefix) → slice_get fs k ≡ Some front → list_of after front ≡ list_of runs front) → map (list_of after) fs ≡ map (list_of runs) fs
  same-lists [] each = refl
  same-lists (f ∷ fs) each = ap (λ l. l ∷ map (list_of after) fs) (each 0 f refl) ∙ ap (λ ls. list_of runs f ∷ ls) (same-lists fs (λ k front at. each (suc k) front at))

  pub put-lists : map (list_of after) (slice_set prefixes number new) ≡ slice_set (map (list_of runs) prefixes) number list
  put-lists =
      map-set (list_of after) prefixes number new
      ∙ ap (λ ls. slice_set ls number (list_of after new)) (same-lists prefixes (λ k front at. let (below, within) = are k front at in (kept front.run front.size below within).2))
      ∙ ap (slice_set (map (list_of runs) prefixes) number) (ap (take new.size) is.1 ∙ take_all new.size list (omega (arith, is.2)))

-- ---- a run more

-- the lists with one more behind them
pub snoc-at : (lists : List (List ℕ)) (list : List ℕ) (x : ℕ) → ((x ≡ length lists) × (nexts_of (lists ++ list ∷ []) x ≡ list)) ⊎ ((x ≡ length lists → ⊥) × (nexts_of (lists ++ list ∷ []) x ≡ nexts_of lists x))
snoc-at [] list zero = inl (refl, refl)
snoc-at [] list (suc x) = inr (λ same. omega (arith, same), refl)
snoc-at (l ∷ lists) list zero = inr (λ same. omega (arith, same), refl)
snoc-at (l ∷ lists) list (suc x) = elim (snoc-at lists list x) [
  | inl h ↦ inl (ap suc h.0, h.1)
  | inr h ↦ inr (λ same. h.0 (omega (arith, same)), h.1)
]

pushed-unchanged : (runs : List (List ℕ)) (list : List ℕ) (r : ℕ) → r < length runs → nexts_of (runs ++ list ∷ []) r ≡ nexts_of runs r
pushed-unchanged runs list r below = elim (snoc-at runs list r) [ inl h ↦ (let is = h.0 in absurd (omega (arith, below, is))) | inr h ↦ h.1 ]

pushed-last : (runs : List (List ℕ)) (list : List ℕ) → nexts_of (runs ++ list ∷ []) (length runs) ≡ list
pushed-last runs list = elim (snoc-at runs list (length runs)) [ inl h ↦ h.1 | inr h ↦ absurd (h.0 refl) ]

module _ (runs after : List (List ℕ)) (list : List ℕ) (after_is : after ≡ runs ++ list ∷ []) where
  long : length after ≡ length runs + 1
  long = ap length after_is ∙ length-append runs (list ∷ [])

  pub run-unchanged : AreUnchanged runs after
  run-unchanged r size below within =
      let same : nexts_of after r ≡ nexts_of runs r = ap (λ ls. nexts_of ls r) after_is ∙ pushed-unchanged runs list r below in
      (omega (arith, below, long), omega (arith, within, ap length same), ap (take size) same)

  pub run-new : (new : RunPrefix) → new.run ≡ length runs → new.size ≡ length list → IsNew after new list
  run-new new run size = (omega (arith, run, long), ap (nexts_of after) run ∙ ap (λ ls. nexts_of ls (length runs)) after_is ∙ pushed-last runs list, size)

  pub run-below : (count : ℕ) → AreBelow count runs → ((e : ℕ) → Contains list e → e < count) → AreBelow count after
  run-below count are lows r e among =
      let P : List (List ℕ) → Type 0 = λ ls. Contains (nexts_of ls r) e in
      let Q : List ℕ → Type 0 = λ es. Contains es e in
      elim (snoc-at runs list r) [
        | inl h ↦ lows e (subst Q h.1 (subst P after_is among))
        | inr h ↦ are r e (subst Q h.1 (subst P after_is among))
      ]

-- ---- a run that goes on

module _ (runs after : List (List ℕ)) (run : ℕ) (list : List ℕ) (below : run < length runs) (begins : BeginsWith list (nexts_of runs run)) (after_is : after ≡ slice_set runs run list) where
  here : nexts_of after run ≡ list
  here = ap (λ ls. nexts_of ls run) after_is ∙ set-same runs run list below

  size-kept : length after ≡ length runs
  size-kept = ap length after_is ∙ length-set runs run list

  at-run : (size : ℕ) → size ≤ length (nexts_of runs run) → (size ≤ length (nexts_of after run)) × (take size (nexts_of after run) ≡ take size (nexts_of runs run))
  at-run size within =
      let (left, is) = begins in
      let long : length list ≡ length (nexts_of runs run) + length left = ap length is ∙ length-append (nexts_of runs run) left in
      (omega (arith, within, long, ap length here), ap (take size) (here ∙ is) ∙ take-append-le size (nexts_of runs run) left within)

  pub over-unchanged : AreUnchanged runs after
  over-unchanged r size r_below within = elim (cases_eq r run) [
    | inl same ↦
        let P : ℕ → Type 0 = λ x. size ≤ length (nexts_of runs x) → (size ≤ length (nexts_of after x)) × (take size (nexts_of after x) ≡ take size (nexts_of runs x)) in
        let (long, is) = subst P (sym same) (at-run size) within in
        (omega (arith, r_below, size-kept), long, is)
    | inr other ↦
        let is : nexts_of after r ≡ nexts_of runs r = ap (λ ls. nexts_of ls r) after_is ∙ set-other runs run r list other in
        (omega (arith, r_below, size-kept), omega (arith, within, ap length is), ap (take size) is)
  ]

  pub over-new : (new : RunPrefix) → new.run ≡ run → new.size ≡ length list → IsNew after new list
  over-new new run_is size = (omega (arith, run_is, below, size-kept), ap (nexts_of after) run_is ∙ here, size)

  pub over-below : (count : ℕ) → AreBelow count runs → ((e : ℕ) → Contains list e → e < count) → AreBelow count after
  over-below count are lows r e among = elim (cases_eq r run) [
    | inl same ↦
        let P : ℕ → Type 0 = λ x. Contains (nexts_of after x) e in
        let Q : List ℕ → Type 0 = λ es. Contains es e in
        lows e (subst Q here (subst P same among))
    | inr other ↦
        let is : nexts_of after r ≡ nexts_of runs r = ap (λ ls. nexts_of ls r) after_is ∙ set-other runs run r list other in
        let Q : List ℕ → Type 0 = λ es. Contains es e in
        are r e (subst Q is among)
  ]
