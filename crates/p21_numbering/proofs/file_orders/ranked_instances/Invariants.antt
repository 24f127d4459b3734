use Rattle.std.specs.Prelude.{◌≡◌, ◌<◌, ℕ, length}
use Rattle.p21_numbering.specs.Instances.{file_instances, instance_at}
use Rattle.p21_numbering.specs.Ranked.{held_instances, ranked_at}
use Rattle.p21_numbering.specs.RankedBy.{IsRankedBy}
use Rattle.p21_numbering.specs.Standing.{standing_of}
use Rattle.p21_numbering.proofs.file_orders.ranked_instances.Given as goal

abbrev pub invariant-loop-k : goal.invariant-loop-k
invariant-loop-k l = record {
  size : length l.all.items ≡ l.k;
  each : (k : ℕ) → k < l.k → IsRankedBy l.schema (standing_of l.standings) (instance_at (file_instances l.instances) k)
      (ranked_at (held_instances l.all.items) k);
}
