-- The steps of a walk along numbers that lead to numbers.
use Rattle.std.specs.Prelude.{◌≡◌, ◌≢◌, ℕ, zero, suc, ◌+◌, ◌*◌, ◌<◌, ◌≤◌, ◌⊎◌, Bool, true, false, Option, None, List, [], ◌∷◌, ◌++◌, Some, length, slice_get, Contains, slice_set, reverse, map, refl}
use Rattle.std.proofs.Common.{arith, ap, sym, ◌∙◌, subst, inl, inr, get_or}
use Rattle.std.proofs.lemmas.Option.{slice_get-map, slice_get_read}
use Rattle.std.proofs.lemmas.Bool.{cases_lt}
use Rattle.std.proofs.lemmas.List.{take-append-le, reverse-append, length-reverse, get_or-set_other}
use Rattle.std.proofs.lemmas.List.Elements.{Contains-append_left, Contains-append_right, Contains-append_cases}
use Rattle.std.proofs.Math.Seq.{take-append_seam}
use Rattle.std.specs.Option.{option_map}
use Rattle.p21_spec_schema.specs.Declared.{HasNoCircle}
use Rattle.p21_spec_basics.proofs.Members.{Contains-none, Contains-cases}
use Rattle.p21_express_graph.specs.SettledOrder.{IsNext, IsSettledOrder, AreWithin, nexts_of}
use Rattle.p21_express_graph.specs.Walk.{IsDone, IsOpen, IsWay, LeadsTo, Walks, open_count, work}
use Rattle.p21_express_graph.proofs.Ranks.{way_short}

pub reverse-snoc : (xs : List ℕ) (x : ℕ) → reverse (xs ++ x ∷ []) ≡ x ∷ reverse xs
reverse-snoc xs x = reverse-append xs (x ∷ [])

done_apart : (done : List Bool) (x : ℕ) → IsDone done x → IsOpen done x → ⊥
done_apart [] x is open_is = cc
done_apart (b ∷ done) zero is open_is = cc
done_apart (b ∷ done) (suc x) is open_is = done_apart done x is open_is

pub set_keeps : (done : List Bool) (top x : ℕ) → IsDone done x → IsDone (slice_set done top true) x
set_keeps [] top x is = is
set_keeps (b ∷ done) zero zero is = refl
set_keeps (b ∷ done) zero (suc x) is = is
set_keeps (b ∷ done) (suc top) zero is = is
set_keeps (b ∷ done) (suc top) (suc x) is = set_keeps done top x is

pub set_only : (done : List Bool) (top x : ℕ) → IsDone (slice_set done top true) x → IsDone done x ⊎ (x ≡ top)
set_only [] top x is = inl is
set_only (b ∷ done) zero zero is = inr refl
set_only (b ∷ done) zero (suc x) is = inl is
set_only (b ∷ done) (suc top) zero is = inl is
set_only (b ∷ done) (suc top) (suc x) is = elim (set_only done top x is) [ inl h ↦ inl h | inr h ↦ inr (ap suc h) ]

pub set_length : (done : List Bool) (top : ℕ) → length (slice_set done top true) ≡ length done
set_length [] top = refl
set_length (b ∷ done) zero = refl
set_length (b ∷ done) (suc top) = ap suc (set_length done top)

pub set_count : (done : List Bool) (top : ℕ) → IsOpen done top → suc (open_count (slice_set done top true)) ≡ open_count done
set_count [] top is = cc
set_count (true ∷ done) zero is = cc
set_count (false ∷ done) zero is = refl
set_count (true ∷ done) (suc top) is = set_count done top is
set_count (false ∷ done) (suc top) is = ap suc (set_count done top is)

-- an element of a list with one more at its end
pub snoc_cases : (xs : List ℕ) (z k x : ℕ) → slice_get (xs ++ z ∷ []) k ≡ Some x → ((slice_get xs k ≡ Some x) × (k < length xs)) ⊎ ((k ≡ length xs) × (x ≡ z))
snoc_cases [] z zero x is = let same : z ≡ x = cc in inr (refl, sym same)
snoc_cases [] z (suc k) x is = cc
snoc_cases (y ∷ xs) z zero x is = inl (is, omega arith)
snoc_cases (y ∷ xs) z (suc k) x is = elim (snoc_cases xs z k x is) [ inl h ↦ inl (h.0, omega (arith, h.1)) | inr h ↦ inr (ap suc h.0, h.1) ]

module _ (lists : List (List ℕ)) where
  -- where all that comes next to a number is done, the number stands on no way to an open one
  way_kept : (done : List Bool) (top y : ℕ) (way : List ℕ) → ((z : ℕ) → IsNext lists top z → IsDone done z) → IsOpen done y → LeadsTo lists way y → IsWay lists done way → IsWay lists (slice_set done top true) way
  way_kept done top y [] all is_open leads is = tt
  way_kept done top y (x ∷ way) all is_open leads is =
      let other : x ≢ top = (λ same. let P : ℕ → Type 0 = λ w. IsNext lists w y in done_apart done y (all y (subst P same leads)) is_open) in
      (is.0, get_or-set_other done top x true true other ∙ is.1, is.2, way_kept done top x way all is.1 is.2 is.3)

  pub finishes : (done : List Bool) (listed way : List ℕ) (passed top : ℕ) → Walks lists done listed (top ∷ way) passed → ((z : ℕ) → IsNext lists top z → IsDone done z) → Walks lists (slice_set done top true) (listed ++ top ∷ []) way passed
  finishes done listed way passed top w all = record {
    size = set_length done top ∙ w.size;
    passed_done = λ x below. set_keeps done top x (w.passed_done x below);
    passed_within = w.passed_within;
    done_listed = λ x is. elim (set_only done top x is) [ inl h ↦ Contains-append_left listed (top ∷ []) x (w.done_listed x h) | inr h ↦ Contains-append_right listed (top ∷ []) x (0, omega arith, sym h) ];
    listed_within = λ x among. elim (Contains-append_cases listed (top ∷ []) x among) [ inl h ↦ w.listed_within x h | inr h ↦ elim (Contains-cases top [] x h) [ inl is ↦ let P : ℕ → Type 0 = λ y. y < length lists in subst P is w.is_way.0 | inr none ↦ absurd (Contains-none x none) ] ];
    behind = λ k x y at next. elim (snoc_cases listed top k x at) [
      | inl h ↦ rw (take-append-le k listed (top ∷ []) (omega (arith, h.1))) (w.behind k x y h.0 next)
      | inr h ↦ rw (h.0, take-append_seam listed (top ∷ [])) (let P : ℕ → Type 0 = λ z. IsNext lists z y in w.done_listed y (all y (subst P h.1 next)))
    ];
    is_way = way_kept done top top way all w.is_way.1 w.is_way.2 w.is_way.3;
    short = omega (arith, w.short);
  }

  pub goes : (done : List Bool) (listed way : List ℕ) (passed top next : ℕ) → AreWithin lists → Walks lists done listed (top ∷ way) passed → IsNext lists top next → IsOpen done next → length way + 2 ≤ length lists → Walks lists done listed (next ∷ top ∷ way) passed
  goes done listed way passed top next within w is_next is_open few = record {
    size = w.size;
    passed_done = w.passed_done;
    passed_within = w.passed_within;
    done_listed = w.done_listed;
    listed_within = w.listed_within;
    behind = w.behind;
    is_way = (within top next is_next, is_open, is_next, w.is_way);
    short = omega (arith, few);
  }

  pub circles : (done : List Bool) (listed way : List ℕ) (passed top next : ℕ) → AreWithin lists → Walks lists done listed (top ∷ way) passed → IsNext lists top next → IsOpen done next → length lists < length way + 2 → HasNoCircle (IsNext lists) → ⊥
  circles done listed way passed top next within w is_next is_open many ends = omega (arith, many, way_short lists done (next ∷ top ∷ way) ends (within top next is_next, is_open, is_next, w.is_way))

  pub settles : (done : List Bool) (listed : List ℕ) → Walks lists done listed [] (length lists) → IsSettledOrder lists listed
  settles done listed w = record { all = λ x below. w.done_listed x (w.passed_done x below); within = w.listed_within; behind = w.behind }

  pub passes : (done : List Bool) (listed : List ℕ) (passed : ℕ) → Walks lists done listed [] passed → passed < length lists → IsDone done passed → Walks lists done listed [] (passed + 1)
  passes done listed passed w below is = record {
    size = w.size;
    passed_done = λ x lt. elim (cases_lt x passed) [ inl h ↦ w.passed_done x h | inr h ↦ (let same : passed ≡ x = omega (arith, lt, h) in let P : ℕ → Type 0 = λ y. IsDone done y in subst P same is) ];
    passed_within = omega (arith, below);
    done_listed = w.done_listed;
    listed_within = w.listed_within;
    behind = w.behind;
    is_way = tt;
    short = w.short;
  }

  pub begins : (done : List Bool) (listed : List ℕ) (passed : ℕ) → Walks lists done listed [] passed → passed < length lists → IsOpen done passed → Walks lists done listed (passed ∷ []) passed
  begins done listed passed w below is = record {
    size = w.size;
    passed_done = w.passed_done;
    passed_within = w.passed_within;
    done_listed = w.done_listed;
    listed_within = w.listed_within;
    behind = w.behind;
    is_way = (below, is, tt, tt);
    short = omega (arith, below);
  }

-- the work falls
times-le : (a b m : ℕ) → suc a ≡ b → a * m + m ≡ b * m
times-le a b m is = rw (← is) (omega arith)

pub finish-falls : (n : ℕ) (done : List Bool) (way : List ℕ) (passed top : ℕ) → IsOpen done top → work n (slice_set done top true) way passed < work n done (top ∷ way) passed
finish-falls n done way passed top is = omega (arith, times-le (open_count (slice_set done top true)) (open_count done) (n + 2) (set_count done top is))

pub go-falls : (n : ℕ) (done : List Bool) (way : List ℕ) (passed next : ℕ) → length way < n → work n done (next ∷ way) passed < work n done way passed
go-falls n done way passed next few = omega (arith, few)

-- the list of a number, where the lists are stored in some form
pub nexts_at : {X : Type 0} (items : X → List ℕ) (xs : List X) (k : ℕ) (x : X) (found : List ℕ) → k < length xs → x ≡ get_or xs k x → found ≡ items x → nexts_of (map items xs) k ≡ found
nexts_at items xs k x found below is found_is =
    let at : slice_get (map items xs) k ≡ Some (items x) = slice_get-map items xs k ∙ ap (option_map items) (slice_get_read xs (length xs) k x refl below is) in
    let P : Option (List ℕ) → Type 0 = λ o. (elim o [ Some nexts ↦ nexts | None ↦ [] ]) ≡ found in
    subst P (sym at) (sym found_is)

module _ (way middle after : List ℕ) (top next : ℕ) (first : middle ≡ way ++ top ∷ []) (second : after ≡ middle ++ next ∷ []) where
  -- a way to which two numbers were pushed
  pub turned : reverse after ≡ next ∷ top ∷ reverse way
  turned = ap reverse second ∙ reverse-snoc middle next ∙ ap (λ xs. next ∷ xs) (ap reverse first ∙ reverse-snoc way top)

  pub turned-length : length after ≡ length (reverse way) + 2
  turned-length = omega (arith, length-reverse after, ap length turned)

-- a slice with as many elements as there are lists
pub listed-length : {X : Type 0} (items : X → List ℕ) (xs : List X) → length (map items xs) ≡ length xs
listed-length items [] = refl
listed-length items (x ∷ xs) = ap suc (listed-length items xs)

-- what is found in the list of a number comes next to it
pub next_of : {X : Type 0} (items : X → List ℕ) (xs : List X) (k : ℕ) (x : X) (found : List ℕ) (next : ℕ) → k < length (map items xs) → x ≡ get_or xs k x → found ≡ items x → Contains found next → IsNext (map items xs) k next
next_of items xs k x found next below is found_is among =
    let P : List ℕ → Type 0 = λ ys. Contains ys next in
    subst P (sym (nexts_at items xs k x found (omega (arith, below, listed-length items xs)) is found_is)) among

pub open_of : (done other : List Bool) (x : ℕ) → other ≡ done → IsOpen other x → IsOpen done x
open_of done other x same is = let P : List Bool → Type 0 = λ d. IsOpen d x in subst P same is
