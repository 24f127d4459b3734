-- Pages of numbers by name.
use Rattle.std.proofs.Common.{◌≡◌, ◌≢◌, ◌+◌, ◌/◌, ◌%◌, ◌<◌, ◌≤◌, ℕ, zero, suc, List, [], ◌∷◌, ◌++◌, length, slice_index_or, slice_set, Vec, vec_capacity, Result, Ok, Err, OnErr, inl, inr, refl, sym, ap, ◌∙◌, arith}
use Rattle.std.proofs.lemmas.Bool.Decides.{eqb_tells}
use Rattle.std.proofs.lemmas.List.{get_or-set_other, get_or-set_same, get_or_default, get_or_past}
use Rattle.std.specs.declared.alloc.Global.{Global}
use Rattle.p21_stream_store.specs.Pages.{most_names, number_in, page_at, rooms}
use Rattle.p21_stream_store.specs.Tables.{GrowsWithin, KeepsRoom}
use Rattle.p21_stream_store.specs.declared.pages.Pages.{Pages}

-- ---- what stands in a page

pub page_behind : {X : Type 0} (pages : List (Vec X Global)) (n : ℕ) → length pages ≤ n → page_at pages n ≡ []
page_behind [] n behind = refl
page_behind (page ∷ pages) zero behind = absurd (omega (arith, behind))
page_behind (page ∷ pages) (suc n) behind = page_behind pages n (omega (arith, behind))

pub page_here : {X : Type 0} (pages : List (Vec X Global)) (n : ℕ) (page : Vec X Global) → n < length pages
    → page ≡ slice_index_or pages n page → page_at pages n ≡ page.items
page_here [] n page within is = absurd (omega (arith, within))
page_here (p ∷ pages) zero page within is = ap (λ (v : Vec _ Global). v.items) (sym is)
page_here (p ∷ pages) (suc n) page within is = page_here pages n page (omega (arith, within)) is

-- a page that is read twice
pub page_again : {X : Type 0} (pages : List (Vec X Global)) (n : ℕ) (page again : Vec X Global) → n < length pages
    → page ≡ slice_index_or pages n page → again ≡ slice_index_or pages n again → length again.items ≡ length page.items
page_again pages n page again within is also = ap (λ (xs : List _). length xs)
    (sym (page_here pages n again within also) ∙ page_here pages n page within is)

-- a page that isn't there yet changes nothing
pub page_closed : {X : Type 0} (pages : List (Vec X Global)) (page : Vec X Global) (n : ℕ) → page.items ≡ []
    → page_at (pages ++ page ∷ []) n ≡ page_at pages n
page_closed [] page zero empty = empty
page_closed [] page (suc n) empty = refl
page_closed (p ∷ pages) page zero empty = refl
page_closed (p ∷ pages) page (suc n) empty = page_closed pages page n empty

pub page_set : {X : Type 0} (pages : List (Vec X Global)) (page : Vec X Global) (n : ℕ) → n < length pages
    → page_at (slice_set pages n page) n ≡ page.items
page_set [] page n within = absurd (omega (arith, within))
page_set (p ∷ pages) page zero within = refl
page_set (p ∷ pages) page (suc n) within = page_set pages page n (omega (arith, within))

pub page_kept : {X : Type 0} (pages : List (Vec X Global)) (page : Vec X Global) (n other : ℕ) → other ≢ n
    → page_at (slice_set pages n page) other ≡ page_at pages other
page_kept [] page n other differs = refl
page_kept (p ∷ pages) page zero zero differs = absurd (omega (arith, differs))
page_kept (p ∷ pages) page zero (suc other) differs = refl
page_kept (p ∷ pages) page (suc n) zero differs = refl
page_kept (p ∷ pages) page (suc n) (suc other) differs = page_kept pages page n other (omega (arith, differs))

-- ---- rooms

pub rooms_more : {X : Type 0} (pages : List (Vec X Global)) (page : Vec X Global)
    → rooms (pages ++ page ∷ []) ≡ rooms pages + vec_capacity page
rooms_more [] page = omega arith
rooms_more (p ∷ pages) page = let before = rooms_more pages page in omega (arith, before)

-- one page has other room
pub rooms_set : {X : Type 0} (pages : List (Vec X Global)) (n : ℕ) (old new : Vec X Global) → n < length pages
    → old ≡ slice_index_or pages n old → rooms (slice_set pages n new) + vec_capacity old ≡ rooms pages + vec_capacity new
rooms_set [] n old new within is = absurd (omega (arith, within))
rooms_set (p ∷ pages) zero old new within is = let same = ap (λ (v : Vec _ Global). vec_capacity v) is in omega (arith, same)
rooms_set (p ∷ pages) (suc n) old new within is = let before = rooms_set pages n old new (omega (arith, within)) is in omega (arith, before)

pub rooms_stay : {X T E : Type 0} (r : Result T E) (pages : List (Vec X Global)) (n : ℕ) (old new : Vec X Global) → n < length pages
    → old ≡ slice_index_or pages n old → OnErr r (vec_capacity new ≡ vec_capacity old)
    → OnErr r (rooms (slice_set pages n new) ≡ rooms pages)
rooms_stay (Ok value) pages n old new within is same = tt
rooms_stay (Err fault) pages n old new within is same = let rooms_are = rooms_set pages n old new within is in
    omega (arith, rooms_are, same)

-- ---- the number of a name

pub none_behind : {X : Type 0} (none : X) (pages : List (Vec X Global)) (name : ℕ) → length pages ≤ name / 4096
    → none ≡ number_in none pages name
none_behind none pages name behind = ap (λ (xs : List _). slice_index_or xs (name % 4096) none)
    (sym (page_behind pages (name / 4096) behind))

module _ {X : Type 0} (none : X) (pages : List (Vec X Global)) (name : ℕ) (page : Vec X Global) (there : name / 4096 < length pages)
    (is : page ≡ slice_index_or pages (name / 4096) page) where
  read : slice_index_or page.items (name % 4096) none ≡ number_in none pages name
  read = ap (λ (xs : List X). slice_index_or xs (name % 4096) none) (sym (page_here pages (name / 4096) page there is))

  pub none_in : length page.items ≤ name % 4096 → none ≡ number_in none pages name
  none_in behind = sym (get_or_past page.items (name % 4096) none behind) ∙ read

  pub number_read : (x : X) → name % 4096 < length page.items → x ≡ slice_index_or page.items (name % 4096) x
      → x ≡ number_in none pages name
  number_read x within at = at ∙ get_or_default page.items (name % 4096) x none within ∙ read

  pub number_set : (new : Vec X Global) (value : X) → name % 4096 < length page.items → new.items ≡ slice_set page.items (name % 4096) value
      → number_in none (slice_set pages (name / 4096) new) name ≡ value
  number_set new value within set =
      ap (λ (xs : List X). slice_index_or xs (name % 4096) none) (page_set pages new (name / 4096) there ∙ set)
      ∙ get_or-set_same page.items (name % 4096) value none within

  pub number_kept : (new : Vec X Global) (value : X) → new.items ≡ slice_set page.items (name % 4096) value → (other : ℕ) → other ≢ name
      → number_in none (slice_set pages (name / 4096) new) other ≡ number_in none pages other
  number_kept new value set other differs = elim (eqb_tells (other / 4096) (name / 4096)) [
    | inr apart ↦ ap (λ (xs : List X). slice_index_or xs (other % 4096) none) (page_kept pages new (name / 4096) (other / 4096) apart.1)
    | inl same ↦
        let beside : other % 4096 ≢ name % 4096 = λ equal. differs (omega (arith, same.1, equal)) in
        ap (λ (i : ℕ). slice_index_or (page_at (slice_set pages (name / 4096) new) i) (other % 4096) none) same.1
        ∙ ap (λ (xs : List X). slice_index_or xs (other % 4096) none) (page_set pages new (name / 4096) there ∙ set)
        ∙ get_or-set_other page.items (name % 4096) (other % 4096) value none beside
        ∙ ap (λ (xs : List X). slice_index_or xs (other % 4096) none) (sym (page_here pages (name / 4096) page there is))
        ∙ ap (λ (i : ℕ). slice_index_or (page_at pages i) (other % 4096) none) (sym same.1)
  ]

-- a page that isn't there yet changes no number
pub number_closed : {X : Type 0} (none : X) (pages : List (Vec X Global)) (page : Vec X Global) (name : ℕ) → page.items ≡ []
    → number_in none (pages ++ page ∷ []) name ≡ number_in none pages name
number_closed none pages page name empty = ap (λ (xs : List _). slice_index_or xs (name % 4096) none)
    (page_closed pages page (name / 4096) empty)

-- from an index on there is no number in a page
pub none_from : (pages : List (Vec ℕ Global)) (page : Vec ℕ Global) (from name : ℕ) → from / 4096 < length pages
    → page ≡ slice_index_or pages (from / 4096) page → ((i : ℕ) → from % 4096 ≤ i → i < 4096 → slice_index_or page.items i 0 ≡ 0)
    → from ≤ name → name / 4096 ≡ from / 4096
    → number_in 0 pages name ≡ 0
none_from pages page from name there is none behind same =
    ap (λ (n : ℕ). slice_index_or (page_at pages n) (name % 4096) 0) same
    ∙ ap (λ (xs : List ℕ). slice_index_or xs (name % 4096) 0) (page_here pages (from / 4096) page there is)
    ∙ none (name % 4096) (omega (arith, behind, same)) (omega arith)

-- ---- the room of a table

pub within_more : {X : Type 0} (count more : ℕ) (old new : Pages X) → GrowsWithin (most_names count) old new → count ≤ more
    → GrowsWithin (most_names more) old new
within_more count more old new (room, directory) less = (omega (arith, room, less), omega (arith, directory, less))

pub within_kept : {X : Type 0} (most : ℕ) (old new last : Pages X) → GrowsWithin most old new → KeepsRoom new last
    → GrowsWithin most old last
within_kept most old new last (room, directory) (same, also) = (omega (arith, room, same), omega (arith, directory, also))

pub within_between : {X : Type 0} (most : ℕ) (first old new last : Pages X) → KeepsRoom first old → GrowsWithin most old new
    → KeepsRoom new last → GrowsWithin most first last
within_between most first old new last (room_is, directory_is) (room, directory) (same, also) =
    (omega (arith, room_is, room, same), omega (arith, directory_is, directory, also))
