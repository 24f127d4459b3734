-- The ONEOF lists of a schema, by their numbers.
use Rattle.std.specs.Prelude.{◌≡◌, ◌≢◌, ◌↔◌, ℕ, List, Some, slice_get, Contains}
use Rattle.std.specs.List.Sorted.{IsStrictlyIncreasing}
use Rattle.p21_spec_schema.specs.Schema.{Schema}
use Rattle.p21_express_graph.specs.SettledOrder.{nexts_of}

-- the list of this number has the entity
abbrev pub IsListedIn : Schema → ℕ → ℕ → Type 0
IsListedIn s k e = (listed : List ℕ) × (slice_get s.one_of_lists k ≡ Some listed) × Contains listed e

-- a list has both
abbrev pub AreListedTogether : Schema → ℕ → ℕ → Type 0
AreListedTogether s e f = (k : ℕ) × IsListedIn s k e × IsListedIn s k f

-- another one of these stands in a list with the entity
abbrev pub ClashesWith : Schema → List ℕ → ℕ → Type 0
ClashesWith s entities e = (f : ℕ) × Contains entities f × (f ≢ e) × AreListedTogether s e f

-- the table has for each entity the numbers of the lists with it, in rising order
pub record AreListedIn (s : Schema) (lists : List (List ℕ)) : Type 0 where
  pub each : (e k : ℕ) → Contains (nexts_of lists e) k ↔ IsListedIn s k e
  pub rising : (e : ℕ) → IsStrictlyIncreasing (nexts_of lists e)
