use Rattle.std.proofs.Common.{◌-◌, ◌^◌}
use Rattle.p21_difference_rows.specs.Pairs.{ArePairRowsBelow}
use Rattle.p21_difference_rows.specs.RealNames.{by_map}
use Rattle.p21_stream_store.specs.StoredInstance.{instance_names}
use Rattle.p21_difference_rows.proofs.pairs.pair_rows.Given as goal

-- the names so far have their rows
abbrev pub invariant-loop-name : goal.invariant-loop-name
invariant-loop-name l = ArePairRowsBelow l.form (by_map l.names) (instance_names l.files.first.now.kept)
    (instance_names l.files.second.now.kept) l.least l.text.items

abbrev pub decreases-loop-name : goal.decreases-loop-name
decreases-loop-name l = 2 ^ 64 - l.least
