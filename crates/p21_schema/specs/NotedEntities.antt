-- The ONEOF lists in which entities stand, each with the entity that was noted at it.
use Rattle.std.specs.Prelude.{◌≡◌, ◌≢◌, ◌≤◌, ℕ, List, Option, None, Some, length, nat_eq, slice_get, Contains, if◌then◌else◌}
use Rattle.p21_spec_schema.specs.Schema.{Schema}
use Rattle.p21_schema.specs.OneOf.{IsListedIn}
use Rattle.p21_schema.specs.declared.holders.Holder.{Holder}

-- at each list in which one of these stands that one is noted, and no other
pub record AreNoted (s : Schema) (seen : List ℕ) (find : ℕ → Option ℕ) : Type 0 where
  pub found : (k e : ℕ) → find k ≡ Some e → Contains seen e × IsListedIn s k e
  pub kept : (k e : ℕ) → Contains seen e → IsListedIn s k e → find k ≡ Some e

-- the entity that is noted at a list, if it was noted for this own set
abbrev pub holder_of : ℕ → Option (Option Holder) → Option ℕ
holder_of set None = None
holder_of set (Some None) = None
holder_of set (Some (Some holder)) = if nat_eq holder.set set then Some holder.entity else None

abbrev pub noted_in : List (Option Holder) → ℕ → ℕ → Option ℕ
noted_in lists set k = holder_of set (slice_get lists k)

-- none was noted at the list
abbrev pub IsNone : Option Holder → Type 0
IsNone holder = holder ≡ None

-- none is noted for an own set
abbrev pub NoneNoted : ℕ → List (Option Holder) → Type 0
NoneNoted set lists = (k : ℕ) → noted_in lists set k ≡ None

-- nor for one whose number is this or higher
abbrev pub NoneFrom : ℕ → List (Option Holder) → Type 0
NoneFrom number lists = (set : ℕ) → number ≤ set → NoneNoted set lists

-- entities were noted for this own set only
pub record NotesSet (set : ℕ) (before after : List (Option Holder)) : Type 0 where
  pub size : length after ≡ length before
  pub others : (other : ℕ) → other ≢ set → NoneNoted other before → NoneNoted other after

-- an entity was noted for it at this list
pub record Notes (set list entity : ℕ) (before after : List (Option Holder)) : Type 0 where
  pub here : noted_in after set list ≡ Some entity
  pub apart : (k : ℕ) → k ≢ list → noted_in after set k ≡ noted_in before set k
  pub set_is : NotesSet set before after
