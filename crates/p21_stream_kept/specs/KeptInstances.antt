-- The instances that were taken, with their lines or without.
use Rattle.std.specs.Prelude.{Bool, List, true}
use Rattle.p21_spec_laws.specs.Stored.{KeptLines, beside, with_lines, without_lines}
use Rattle.p21_stream_kept.specs.declared.kept_instances.KeptInstances.{KeptInstances}
use Rattle.p21_stream_kept.specs.declared.kept_instances.KeptInstances.TheVariants.{Beside, Counted, WithLines}
use Rattle.p21_stream_store.specs.StoredInstance.{StoredInstance}

abbrev pub instances_of : KeptInstances → List StoredInstance
instances_of (WithLines instances) = instances
instances_of (Counted names) = names
instances_of (Beside later) = later.names

-- what is kept of their lines
abbrev pub lines_kept : KeptInstances → KeptLines
lines_kept (WithLines instances) = with_lines
lines_kept (Counted names) = without_lines
lines_kept (Beside later) = beside later.earlier

-- whether each line was one of the earlier file, if there is one
abbrev pub are_equal : KeptInstances → Bool
are_equal (WithLines instances) = true
are_equal (Counted names) = true
are_equal (Beside later) = later.equal
