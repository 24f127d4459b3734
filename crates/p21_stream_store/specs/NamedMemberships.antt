-- Instances without texts, by the memberships that are noted of their names.
use Rattle.std.specs.Prelude.{◌*◌, ℕ, zero, suc, List, [], ◌∷◌, length, map, Contains}
use Rattle.std.specs.List.{range_with_len}
use Rattle.p21_stream_store.specs.Seen.{MayHaveCome}
use Rattle.p21_stream_store.specs.Tables.{number_of}
use Rattle.p21_stream_store.specs.declared.pages.Pages.{Pages}
use Rattle.p21_stream_store.specs.StoredInstance.{StoredInstance, instance_names}

-- an instance of a name without a text
abbrev pub without_text : ℕ → ℕ → StoredInstance
without_text name membership = record { name = name; membership = membership; text = [] }

-- the instances whose memberships are noted by these marks, of which the first is that of this name; 0 marks none
abbrev pub noted_from : ℕ → List ℕ → List StoredInstance
noted_from name [] = []
noted_from name (zero ∷ marks) = noted_from (suc name) marks
noted_from name (suc membership ∷ marks) = without_text name membership ∷ noted_from (suc name) marks

-- the marks of all names that a table leads to
abbrev pub marks_of : Pages ℕ → List ℕ
marks_of table = map (number_of 0 table) (range_with_len 0 (4096 * length table.pages.items))

-- the instances whose memberships are noted in a table
abbrev pub noted_in : Pages ℕ → List StoredInstance
noted_in table = noted_from 0 (marks_of table)

-- the bit of the name of each instance is set, if it has one
abbrev pub AreSeen : List ℕ → List StoredInstance → Type 0
AreSeen words stored = (name : ℕ) → Contains (instance_names stored) name → MayHaveCome words name
