-- Instances by their ranks, and what is answered of their order.
use Rattle.std.specs.Prelude.{◌≡◌, ◌<◌, ◌↔◌, ◌^◌, ℕ, List, [], map, length, slice_index_or, Option, Some, None, Contains}
use Rattle.std.specs.List.{AllByRecursion as Each}
use Rattle.p21_spec_basics.proofs.Shuffles.{Shuffled}
use Rattle.p21_spec_exchange.specs.DataSection.{Heading}
use Rattle.p21_spec_file.specs.File.{FileMeaning}
use Rattle.p21_spec_file.specs.Meaning.{Typed}
use Rattle.p21_spec_numbering.proofs.Targets.{typed_targets}
use Rattle.p21_spec_numbering.specs.Copies.{Shares, many, IsDecided, AllSpread}
use Rattle.p21_spec_numbering.specs.Ordered.{Ranking}
use Rattle.p21_spec_numbering.specs.Renamed.{names, renamed_typed}
use Rattle.p21_spec_schema.specs.Schema.{Schema}
use Rattle.p21_numbering.specs.declared.ranked.RankedInstance.{RankedInstance as Code}
use Rattle.p21_numbering.specs.NodesOf.{row_of_texts}
use Rattle.p21_numbering.specs.Said.{said}

-- the name, the rank, what is said by ranks, the instances that it hangs together with, and one for which the file isn't decided
pub record Ranked : Type 0 where
  pub name : ℕ
  pub rank : ℕ
  pub said : List ℕ
  pub beside : List ℕ
  pub loose : Option (ℕ × ℕ)

-- the instance without addresses
abbrev pub held_instance : Code → Ranked
held_instance r = record { name = r.name; rank = r.rank; said = r.said.items; beside = r.beside.items; loose = r.loose }

-- the instances without addresses
abbrev pub held_instances : List Code → List Ranked
held_instances all = map held_instance all

abbrev pub no_instance : Ranked
no_instance = record { name = 0; rank = 0; said = []; beside = []; loose = None }

abbrev pub ranked_at : List Ranked → ℕ → Ranked
ranked_at all k = slice_index_or all k no_instance

abbrev pub name_of : List Ranked → ℕ → ℕ
name_of all k = (ranked_at all k).name

abbrev pub names_of : List Ranked → List ℕ
names_of all = map (λ r. r.name) all

-- of an instance that shares its rank: those that it refers to and that share theirs have ranks of equal size; of another: its
-- values spread; or else one that shares its rank, with its rank, and the file isn't decided
abbrev pub IsLoose : Ranking → FileMeaning → ℕ → Typed → Option (ℕ × ℕ) → Type 0
IsLoose ranking m n x None =
    (Shares ranking m n → (t : ℕ) → Contains (typed_targets x) t → Shares ranking m t → many ranking m n ≡ many ranking m t)
    × (¬ Shares ranking m n → Each (AllSpread ranking m) x.values)
IsLoose ranking m n x (Some t) = Contains (names m) t.0 × Shares ranking m t.0 × (t.1 ≡ ranking m t.0) × ¬ IsDecided ranking m

-- the instance of the file, by its rank
pub record IsRanked (s : Schema) (ranking : Ranking) (m : FileMeaning) (r : Ranked) : Type 0 where
  pub typed : Typed
  pub heading : Heading
  pub instance : Contains m.instances (r.name, typed)
  pub section : Contains m.instance_sections (r.name, heading)
  pub rank_is : r.rank ≡ ranking m r.name
  pub said_is : Shares ranking m r.name → r.said ≡ row_of_texts (said s heading (renamed_typed (ranking m) typed))
  pub beside_are : (t : ℕ) → Contains r.beside t ↔ (Contains (typed_targets typed) t × Shares ranking m r.name × Shares ranking m t)
  pub loose_is : IsLoose ranking m r.name typed r.loose

-- each instance of the file, once
pub record AreRanked (s : Schema) (ranking : Ranking) (m : FileMeaning) (all : List Ranked) : Type 0 where
  pub names_are : Shuffled (names_of all) (names m)
  pub each : (k : ℕ) → k < length all → IsRanked s ranking m (ranked_at all k)
  pub small : (k : ℕ) → k < length all → (ranked_at all k).rank < 2 ^ 64
