-- Names in the order in which they came, and where their positions are stored.
use Rattle.std.proofs.Common.{◌≡◌, ◌≢◌, ◌⊎◌, ◌+◌, ◌*◌, ◌<◌, ◌≤◌, ◌^◌, ℕ, zero, suc, List, [], ◌∷◌, ◌++◌, length, Option, Some, None, inl, inr, IfSome, IsNone, refl, sym, ap, subst, ◌∙◌, arith}
use Rattle.std.proofs.lemmas.Bool.Decides.{eqb_tells}
use Rattle.std.proofs.lemmas.List.{length-append}
use Rattle.std.proofs.lemmas.Option.{get_or_from_slice_get, slice_get-get_or, slice_get_within}
use Rattle.std.specs.BTreeMap.{BTreeMap, get}
use Rattle.std.specs.List.{Contains, slice_get}
use Rattle.std.specs.Option.{option_map}
use Rattle.std.specs.Ordering.{nat_cmp}
use Rattle.p21_stream_store.specs.Numbering.{AreOnce}
use Rattle.p21_stream_store.specs.Positions.{ArePositionsOf, Changes, IsSame, NamesOf, NamesOf-prop, or_else, position_beside, position_in, position_of_mark}
use Rattle.p21_stream_store.proofs.RunLemmas.{run_got, run_place}
use Rattle.p21_stream_store.specs.Runs.{numbers_by, place_in}
use Rattle.p21_stream_store.specs.Tables.{number_of}
use Rattle.p21_stream_store.specs.declared.pages.Pages.{Pages}

-- ---- a list and one more name

at_the_end : (names : List ℕ) (x : ℕ) → slice_get (names ++ x ∷ []) (length names) ≡ Some x
at_the_end [] x = refl
at_the_end (a ∷ names) x = at_the_end names x

before_the_end : (names : List ℕ) (x : ℕ) (i n : ℕ) → slice_get names i ≡ Some n → slice_get (names ++ x ∷ []) i ≡ Some n
before_the_end [] x i n e = cc
before_the_end (a ∷ names) x zero n e = e
before_the_end (a ∷ names) x (suc i) n e = before_the_end names x i n e

at_or_before : (names : List ℕ) (x : ℕ) (i n : ℕ) → slice_get (names ++ x ∷ []) i ≡ Some n → (slice_get names i ≡ Some n)
    ⊎ ((i ≡ length names) × (x ≡ n))
at_or_before [] x zero n e = inr (refl, cc)
at_or_before [] x (suc i) n e = cc
at_or_before (a ∷ names) x zero n e = inl e
at_or_before (a ∷ names) x (suc i) n e = elim (at_or_before names x i n e)
    [ inl before ↦ inl before | inr end ↦ inr (ap (λ (k : ℕ). suc k) end.0, end.1) ]

contains_at : (names : List ℕ) (i n : ℕ) → slice_get names i ≡ Some n → Contains names n
contains_at names i n e = (i, slice_get_within names i n e, get_or_from_slice_get names i n n e)

-- ---- what finds names

absent_name : (names : List ℕ) (find : ℕ → Option ℕ) (name : ℕ) → ArePositionsOf names find → find name ≡ None → Contains names name → ⊥
absent_name names find name are none (k, within, at) =
    let here : slice_get names k ≡ Some name = slice_get-get_or names k name within ∙ ap (λ (n : ℕ). Some n) at in
    let kept = are.kept name k here in
    cc

-- a name that isn't there isn't found
pub not_found_yet : (names : List ℕ) (find : ℕ → Option ℕ) (name : ℕ) → ArePositionsOf names find → (Contains names name → ⊥)
    → find name ≡ None
not_found_yet names find name are absent = by (find name) refl where
  by : (answer : Option ℕ) → find name ≡ answer → find name ≡ None
  by None e = e
  by (Some place) e = absurd (absent (contains_at names place name (are.found name place e)))

-- where all are found as before
pub as_before : (names : List ℕ) (find new : ℕ → Option ℕ) → ArePositionsOf names find → IsSame find new → ArePositionsOf names new
as_before names find new are same = record {
  found = λ name place e. are.found name place (sym (same name) ∙ e);
  kept =
      λ name place e. same name ∙ are.kept name place e;
  fits = λ name place e. are.fits name place (sym (same name) ∙ e);
}

-- there is one list of names that are found
pub names_are : (find : ℕ → Option ℕ) (count : ℕ) (there : NamesOf find count) (names : List ℕ) → count ≡ length names
    → ArePositionsOf names find → there.0 ≡ names
names_are find count there names size are = ap (λ (list : NamesOf find count). list.0) (NamesOf-prop find count there (names, (size, are)))

-- where the run has as many names as there are, it has them all
pub run_is_all : (run names : List ℕ) (marks : Pages ℕ) (tree : BTreeMap ℕ ℕ) (first step : ℕ) → 0 < step
    → run ≡ numbers_by first step (length run) → length run ≡ length names → ArePositionsOf names (position_in run marks tree)
    → ArePositionsOf run (position_in run marks tree)
run_is_all run names marks tree first step some is many are = record { found = found; kept = kept; fits = are.fits } where
  got : (i : ℕ) → i < length run → slice_get run i ≡ Some (first + i * step)
  got i within = ap (λ (l : List ℕ). slice_get l i) is ∙ run_got first step (length run) i within

  there : (i : ℕ) → i < length run → position_in run marks tree (first + i * step) ≡ Some i
  there i within =
      ap (λ (place : Option ℕ). or_else place (position_beside marks tree (first + i * step)))
      (ap (λ (l : List ℕ). place_in l (first + i * step)) is ∙ run_place first step (length run) i some within)

  kept : (name place : ℕ) → slice_get run place ≡ Some name → position_in run marks tree name ≡ Some place
  kept name place at =
      let within = slice_get_within run place name at in
      let here = got place within in
      let same : name ≡ first + place * step = cc in
      ap (position_in run marks tree) same ∙ there place within

  found : (name place : ℕ) → position_in run marks tree name ≡ Some place → slice_get run place ≡ Some name
  found name place at =
      let named = are.found name place at in
      let low = slice_get_within names place name named in
      let within : place < length run = omega (arith, low, many) in
      let here = are.found _ place (there place within) in
      let same : first + place * step ≡ name = cc in
      got place within ∙ ap (λ (n : ℕ). Some n) same

-- one more name is found
one_more : (names : List ℕ) (find new : ℕ → Option ℕ) (x : ℕ) → x < 2 ^ 64 → ArePositionsOf names find → (Contains names x → ⊥)
    → Changes find x (Some (length names)) new → ArePositionsOf (names ++ x ∷ []) new
one_more names find new x low are absent changes =
    record { found = found; kept = λ name place e. kept name place (at_or_before names x place name e); fits = fits } where
      fits : (name place : ℕ) → new name ≡ Some place → name < 2 ^ 64
      fits name place e = elim (eqb_tells name x) [
        | inl same ↦ omega (arith, same.1, low)
        | inr other ↦ are.fits name place
            (sym (changes.1 name other.1) ∙ e)
      ]

      found : (name place : ℕ) → new name ≡ Some place → slice_get (names ++ x ∷ []) place ≡ Some name
      found name place e = elim (eqb_tells name x) [
        | inl same ↦ (
            let value : new x ≡ Some place = subst (λ (n : ℕ). new n ≡ Some place) same.1 e in
            let there = changes.0 in
            let at : length names ≡ place = cc in
            subst (λ (n : ℕ). slice_get (names ++ x ∷ []) place ≡ Some n) (sym same.1)
            (subst (λ (k : ℕ). slice_get (names ++ x ∷ []) k ≡ Some x) at (at_the_end names x)))
        | inr other ↦ before_the_end names x place name (are.found name place (sym (changes.1 name other.1) ∙ e))
      ]

      kept : (name place : ℕ) → (slice_get names place ≡ Some name) ⊎ ((place ≡ length names) × (x ≡ name)) → new name ≡ Some place
      kept name place (inl before) = elim (eqb_tells name x) [
        | inl same ↦ absurd (absent (subst (λ (n : ℕ). Contains names n) same.1 (contains_at names place name before)))
        | inr other ↦ changes.1 name other.1 ∙ are.kept name place before
      ]
      kept name place (inr end) = subst (λ (n : ℕ). new n ≡ Some place) end.1 (changes.0 ∙ ap (λ (k : ℕ). Some k) (sym end.0))

-- ---- the run, the marks and the tree

last_place : (run : List ℕ) (name : ℕ) → place_in run name ≡ None → place_in (run ++ name ∷ []) name ≡ Some (length run)
last_place [] name none = elim (eqb_tells name name) [ inl same ↦ rw (place_in, same.0) refl | inr other ↦ absurd (other.1 refl) ]
last_place (n ∷ run) name none = elim (eqb_tells n name) [
  | inl same ↦ (let here : place_in (n ∷ run) name ≡ Some 0 = rw (place_in, same.0) refl in cc)
  | inr other ↦ (
      let behind : place_in (n ∷ run) name ≡ option_map (λ (place : ℕ). suc place) (place_in run name) = rw (place_in, other.0) refl in
      let rest = last_place run name (by (place_in run name) (sym behind ∙ none)) in
      (rw (place_in, other.0) (ap (λ (place : Option ℕ). option_map (λ (k : ℕ). suc k) place) rest)))
] where
  by : (place : Option ℕ) → option_map (λ (k : ℕ). suc k) place ≡ None → place ≡ None
  by None e = refl
  by (Some k) e = cc

other_place : (run : List ℕ) (name other : ℕ) → other ≢ name → place_in (run ++ name ∷ []) other ≡ place_in run other
other_place [] name other differs = elim (eqb_tells name other)
    [ inl same ↦ absurd (differs (sym same.1)) | inr apart ↦ rw (place_in, apart.0) refl ]
other_place (n ∷ run) name other differs = elim (eqb_tells n other) [
  | inl same ↦ rw (place_in, same.0) refl
  | inr apart ↦ rw (place_in, apart.0)
      (ap (λ (place : Option ℕ). option_map (λ (k : ℕ). suc k) place) (other_place run name other differs))
]

neither : (first second : Option ℕ) → or_else first second ≡ None → (first ≡ None) × (second ≡ None)
neither None second none = (refl, none)
neither (Some place) second none = cc

pub none_in_run : (run : List ℕ) (marks : Pages ℕ) (tree : BTreeMap ℕ ℕ) (name : ℕ) → position_in run marks tree name ≡ None
    → place_in run name ≡ None
none_in_run run marks tree name none = (neither (place_in run name) (position_beside marks tree name) none).0

pub none_beside : (run : List ℕ) (marks : Pages ℕ) (tree : BTreeMap ℕ ℕ) (name : ℕ) → position_in run marks tree name ≡ None
    → position_beside marks tree name ≡ None
none_beside run marks tree name none = (neither (place_in run name) (position_beside marks tree name) none).1

-- the run takes a name
pub run_takes : (run new : List ℕ) (marks : Pages ℕ) (tree : BTreeMap ℕ ℕ) (name place : ℕ) → place ≡ length run → new ≡ run ++ name ∷ []
    → position_in run marks tree name ≡ None → Changes (position_in run marks tree) name (Some place) (position_in new marks tree)
run_takes run new marks tree name place end is none = (
  ap (λ (r : List ℕ). position_in r marks tree name) is
      ∙ ap (λ (first : Option ℕ). or_else first (position_beside marks tree name))
      (last_place run name (none_in_run run marks tree name none)) ∙ ap (λ (k : ℕ). Some k) (sym end),
  λ other differs. ap (λ (r : List ℕ). position_in r marks tree other) is
      ∙ ap (λ (first : Option ℕ). or_else first (position_beside marks tree other)) (other_place run name other differs),
)

-- what changes beside the run changes
pub beside_changes : (run same : List ℕ) (marks new_marks : Pages ℕ) (tree new_tree : BTreeMap ℕ ℕ) (name place : ℕ) → same ≡ run
    → position_in run marks tree name ≡ None → Changes (position_beside marks tree) name (Some place) (position_beside new_marks new_tree)
    → Changes (position_in run marks tree) name (Some place) (position_in same new_marks new_tree)
beside_changes run same marks new_marks tree new_tree name place is none changes = (
  ap (λ (r : List ℕ). position_in r new_marks new_tree name) is
      ∙ ap (λ (first : Option ℕ). or_else first (position_beside new_marks new_tree name)) (none_in_run run marks tree name none)
      ∙ changes.0,
  λ other differs. ap (λ (r : List ℕ). position_in r new_marks new_tree other) is
      ∙ ap (λ (second : Option ℕ). or_else (place_in run other) second) (changes.1 other differs),
)

pub beside_same : (run same : List ℕ) (marks new_marks : Pages ℕ) (tree new_tree : BTreeMap ℕ ℕ) → same ≡ run
    → IsSame (position_beside marks tree) (position_beside new_marks new_tree)
    → IsSame (position_in run marks tree) (position_in same new_marks new_tree)
beside_same run same marks new_marks tree new_tree is alike name = ap (λ (r : List ℕ). position_in r new_marks new_tree name) is
    ∙ ap (λ (second : Option ℕ). or_else (place_in run name) second) (alike name)

-- where there is nothing, nothing is found
pub none_found : (run : List ℕ) (marks : Pages ℕ) (tree : BTreeMap ℕ ℕ) → run ≡ [] → ((name : ℕ) → number_of 0 marks name ≡ 0)
    → ((name : ℕ) → get nat_cmp tree name ≡ None) → ArePositionsOf [] (position_in run marks tree)
none_found run marks tree run_is no_mark no_entry =
    record {
      found = λ name place e. (let none = nowhere name in cc);
      kept = λ name place e. cc;
      fits =
          λ name place e. (let none = nowhere name in cc);
    } where
      nowhere : (name : ℕ) → position_in run marks tree name ≡ None
      nowhere name = ap (λ (r : List ℕ). position_in r marks tree name) run_is
          ∙ ap (λ (mark : ℕ). or_else (position_of_mark mark) (get nat_cmp tree name)) (no_mark name) ∙ no_entry name

-- ---- a name that is looked up

module _ (names : List ℕ) (find : ℕ → Option ℕ) (name : ℕ) (result : Option ℕ) (are : ArePositionsOf names find)
    (is : result ≡ find name) where
  pub found_at : IfSome result (λ place. slice_get names place ≡ Some name)
  found_at = by result is where
    by : (r : Option ℕ) → r ≡ find name → IfSome r (λ place. slice_get names place ≡ Some name)
    by None e = tt
    by (Some place) e = are.found name place (sym e)

  pub absent_where_none : IsNone result → Contains names name → ⊥
  absent_where_none none = by result is none where
    by : (r : Option ℕ) → r ≡ find name → IsNone r → Contains names name → ⊥
    by None e gone = absent_name names find name are (sym e)
    by (Some place) e gone = cc

-- ---- the next name

module _ (names : List ℕ) (find : ℕ → Option ℕ) (are : ArePositionsOf names find) where
  pub absent_between : (least : ℕ) (r : Option (ℕ × ℕ))
      → IfSome r (λ found. (other : ℕ) → least ≤ other → other < found.0 → find other ≡ None)
      → IfSome r (λ found. (other : ℕ) → least ≤ other → other < found.0 → Contains names other → ⊥)
  absent_between least None none = tt
  absent_between least (Some found) none = λ other from before. absent_name names find other are (none other from before)

  pub found_there : (least : ℕ) (r : Option (ℕ × ℕ))
      → IfSome r (λ found. (least ≤ found.0) × (found.0 < 2 ^ 64) × (find found.0 ≡ Some found.1))
      → IfSome r (λ found. (least ≤ found.0) × (found.0 < 2 ^ 64) × (slice_get names found.1 ≡ Some found.0))
  found_there least None none = tt
  found_there least (Some found) (from, low, at) = (from, low, are.found found.0 found.1 at)

  -- a name that is there has 64 bits
  pub fits_there : (other : ℕ) → Contains names other → other < 2 ^ 64
  fits_there other (k, within, at) = are.fits other k (are.kept other k (slice_get-get_or names k other within ∙ ap (λ (n : ℕ). Some n) at))

  pub absent_from : (least : ℕ) → ((other : ℕ) → least ≤ other → other < 2 ^ 64 → find other ≡ None) → (other : ℕ) → least ≤ other
      → Contains names other → ⊥
  absent_from least none other from there = absent_name names find other are (none other from (fits_there other there)) there

  pub once_there : AreOnce names
  once_there thing number other at also = (
      let one = are.kept thing number at in
      let two = are.kept thing other also in
      cc)

-- a list with one name more
module _ (names : List ℕ) (count x : ℕ) (size : count ≡ length names) where
  pub more_size : count + 1 ≡ length (names ++ x ∷ [])
  more_size = (let long = length-append names (x ∷ []) in omega (arith, size, long))

  pub more_are : (all : List ℕ) (find new : ℕ → Option ℕ) → names ≡ all → x < 2 ^ 64 → ArePositionsOf names find → (Contains all x → ⊥)
      → Changes find x (Some count) new → ArePositionsOf (names ++ x ∷ []) new
  more_are all find new is low are absent changes =
      one_more names find new x low are (subst (λ (l : List ℕ). Contains l x → ⊥) (sym is) absent)
      (subst (λ (n : ℕ). Changes find x (Some n) new) size changes)
