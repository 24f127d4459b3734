-- Kinds of instances: two have one kind exactly if they have one set of entities.
use Rattle.std.specs.Prelude.{◌≡◌, ◌↔◌, ◌<◌, ◌+◌, ℕ, List, length}
use Rattle.p21_numbering.specs.Arrays.{rank_at}
use Rattle.p21_numbering.specs.Instances.{Instance, instance_at}

-- the entities of the instance at a position
abbrev pub entities_at : List Instance → ℕ → List ℕ
entities_at all k = (instance_at all k).typed.entities

-- those of the first file's instances, and behind them those of the second one's
pub record AreKinds (first second : List Instance) (kinds : List ℕ) : Type 0 where
  pub long : length kinds ≡ length first + length second
  pub within : (k : ℕ) → k < length kinds → rank_at kinds k < length kinds
  pub one_set : (i j : ℕ) → i < length first → j < length second
      → (rank_at kinds i ≡ rank_at kinds (length first + j)) ↔ (entities_at first i ≡ entities_at second j)
