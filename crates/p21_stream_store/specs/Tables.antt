-- Tables of names.
use Rattle.std.specs.Prelude.{◌≡◌, ◌≤◌, ◌/◌, ℕ, max, vec_capacity}
use Rattle.p21_stream_store.specs.Pages.{number_in, rooms}
use Rattle.p21_stream_store.specs.declared.pages.Pages.{Pages}

-- the number of a name in a table, or that of no name
abbrev pub number_of : {X : Type 0} → X → Pages X → ℕ → X
number_of none table name = number_in none table.pages.items name

-- so many names the pages of a table have room for
abbrev pub room_of : {X : Type 0} → Pages X → ℕ
room_of table = rooms table.pages.items

-- so many pages the table has room to lead to
abbrev pub directory_of : {X : Type 0} → Pages X → ℕ
directory_of table = vec_capacity table.pages

-- a table has room for the names that it had room for, or for so many; and it leads to as many pages as before, or to 4,096, or to
-- one for each 256 names that it has room for
abbrev pub GrowsWithin : {X : Type 0} → ℕ → Pages X → Pages X → Type 0
GrowsWithin most old new = (room_of new ≤ max (room_of old) most) × (directory_of new ≤ max (directory_of old) (max 4096 (most / 256)))

abbrev pub KeepsRoom : {X : Type 0} → Pages X → Pages X → Type 0
KeepsRoom old new = (room_of new ≡ room_of old) × (directory_of new ≡ directory_of old)
