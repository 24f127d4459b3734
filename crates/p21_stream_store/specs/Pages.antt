-- Numbers of names, in pages of 4,096 names.
use Rattle.std.specs.Prelude.{◌+◌, ◌*◌, ◌/◌, ◌%◌, ◌<◌, ℕ, List, [], ◌∷◌, None, Some, Vec, length, max, slice_get, slice_index_or, vec_capacity}
use Rattle.std.specs.declared.alloc.Global.{Global}

-- what stands in a page
abbrev pub page_at : {X : Type 0} → List (Vec X Global) → ℕ → List X
page_at pages number = elim (slice_get pages number) [ None ↦ [] | Some page ↦ page.items ]

-- the number of a name among pages, or that of no name where its page isn't there
abbrev pub number_in : {X : Type 0} → X → List (Vec X Global) → ℕ → X
number_in none pages name = slice_index_or (page_at pages (name / 4096)) (name % 4096) none

-- the page of a name is there
abbrev pub HasPage : {X : Type 0} → List (Vec X Global) → ℕ → Type 0
HasPage pages name = 0 < length (page_at pages (name / 4096))

-- so many names the pages have room for
abbrev pub rooms : {X : Type 0} → List (Vec X Global) → ℕ
rooms [] = 0
rooms (page ∷ pages) = vec_capacity page + rooms pages

-- a table that has so many names may have room for so many
abbrev pub most_names : ℕ → ℕ
most_names count = max 1048576 (12 * count)
