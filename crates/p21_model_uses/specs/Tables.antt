-- The table of uses: references by the numbers of their users and attributes, and where those to each name begin and end.
use Rattle.std.specs.Prelude.{◌≡◌, ◌↔◌, ℕ, ◌-◌, ◌^◌, ◌<◌, ◌≤◌, Contains, List, [], ◌∷◌, Option, Some, None, length, map, take, drop, filter, nat_eq, ⊤}
use Rattle.std.specs.List.{flat_map, slice_index_or, AllByRecursion as Each}
use Rattle.std.specs.List.Sorted.{IsStrictlySortedBy}
use Rattle.std.specs.Ordering.{nat_cmp, ordering_then}
use Rattle.std.specs.declared.cmp.Ordering.{Ordering}
use Rattle.p21_model_uses.specs.UseRows.{AreInOrder, UseRow}
use Rattle.p21_model_uses.specs.declared.fault.UsersFault.{UsersFault}
use Rattle.p21_model_uses.specs.declared.fault.UsersFault.TheVariants.{NoMemory, TooMany}
use Rattle.p21_model_uses.specs.declared.groups.Used.{Used}
use Rattle.p21_model_uses.specs.declared.references.Reference.{Reference}

-- what a reference tells by the tables of users and of attributes, and what a use has besides the name that is used
abbrev pub told_by : List ℕ → List (ℕ × ℕ) → Reference → ℕ × ℕ × ℕ
told_by users places r = (slice_index_or users r.user 0, (slice_index_or places r.place (0, 0)).0, (slice_index_or places r.place (0, 0)).1)

abbrev pub user_and_place : UseRow → ℕ × ℕ × ℕ
user_and_place u = (u.1, u.2, u.3)

abbrev pub user_of : UseRow → ℕ
user_of u = u.1

abbrev pub place_of : UseRow → ℕ × ℕ
place_of u = (u.2, u.3)

abbrev pub pair_cmp : ℕ × ℕ → ℕ × ℕ → Ordering
pair_cmp a b = ordering_then (nat_cmp a.0 b.0) (nat_cmp a.1 b.1)

-- those of a list, each once, rising
pub record AreEachOnce {X : Type 0} (cmp : X → X → Ordering) (all once : List X) : Type 0 where
  pub rises : IsStrictlySortedBy cmp once
  pub members : (x : X) → Contains once x ↔ Contains all x
  pub bound : length once ≤ length all

-- both numbers are in their tables
abbrev pub IsWithin : List ℕ → List (ℕ × ℕ) → Reference → Type 0
IsWithin users places r = (r.user < length users) × (r.place < length places)

-- the use of a name
abbrev pub use_of : List ℕ → List (ℕ × ℕ) → ℕ → Reference → UseRow
use_of users places name r = (name, (told_by users places r).0, (told_by users places r).1, (told_by users places r).2)

-- those from here to there
abbrev pub between : {X : Type 0} → ℕ → ℕ → List X → List X
between start end xs = take (end - start) (drop start xs)

abbrev pub uses_to : List ℕ → List (ℕ × ℕ) → List Reference → Used → List UseRow
uses_to users places references u = map (use_of users places u.name) (between u.start u.end references)

-- all uses in a table
abbrev pub uses_in : List ℕ → List (ℕ × ℕ) → List Reference → List Used → List UseRow
uses_in users places references used = flat_map (uses_to users places references) used

abbrev pub by_name : Used → Used → Ordering
by_name u v = nat_cmp u.name v.name

-- all numbers reach, and the names rise
pub record IsTable (users : List ℕ) (places : List (ℕ × ℕ)) (references : List Reference) (used : List Used) : Type 0 where
  pub within : Each (IsWithin users places) references
  pub ranges : Each (λ (u : Used). (u.start ≤ u.end) × (u.end ≤ length references)) used
  pub rises : IsStrictlySortedBy by_name used

-- the names in the first rows, as many as this, with where the rows of each begin and end
pub record AreGroupsOf (rows : List UseRow) (count : ℕ) (used : List Used) : Type 0 where
  pub are : flat_map (λ (u : Used). between u.start u.end rows) used ≡ take count rows
  pub ranges : Each (λ (u : Used). (u.start ≤ u.end) × (u.end ≤ count)) used
  pub named : Each (λ (u : Used). (k : ℕ) (d : UseRow) → u.start ≤ k → k < u.end → (slice_index_or rows k d).0 ≡ u.name) used
  pub below : Each (λ (u : Used). (k : ℕ) (d : UseRow) → count ≤ k → k < length rows → u.name < (slice_index_or rows k d).0) used
  pub rises : IsStrictlySortedBy by_name used

-- these are the references to a name
pub record AreNamed (users : List ℕ) (places : List (ℕ × ℕ)) (references : List Reference) (used : List Used) (name : ℕ)
    (found : List Reference) : Type 0 where
  pub are : map (use_of users places name) found ≡ filter (λ (u : UseRow). nat_eq u.0 name) (uses_in users places references used)
  pub within : Each (IsWithin users places) found

-- the next of these is handed out, and the others are left
abbrev pub HandsOutRow : List UseRow → Option (ℕ × ℕ × ℕ) → List UseRow → Type 0
HandsOutRow [] None left = left ≡ []
HandsOutRow [] (Some found) left = ⊥
HandsOutRow (u ∷ uses) None left = ⊥
HandsOutRow (u ∷ uses) (Some found) left = (found ≡ user_and_place u) × (left ≡ uses)

-- want of memory owes nothing; of too many uses there are at least as many as a number of 32 bits doesn't count
abbrev pub IsOfMany : ℕ → UsersFault → Type 0
IsOfMany count NoMemory = ⊤
IsOfMany count TooMany = 2 ^ 32 ≤ count

-- the same of the uses that these rows have, each once
pub record IsOfUses (rows : List UseRow) (fault : UsersFault) : Type 0 where
  pub uses : List UseRow
  pub order : AreInOrder uses
  pub members : (u : UseRow) → Contains uses u ↔ Contains rows u
  pub many : IsOfMany (length uses) fault
