use Rattle.std.proofs.Common.{◌≡◌, ◌≤◌, ◌+◌}
use Rattle.p21_stream_syntax.proofs.Feeding.{InLoop}
use Rattle.p21_stream_syntax.proofs.reading.read_all.Given as goal

abbrev pub invariant-loop-count : goal.invariant-loop-count
invariant-loop-count g l = record {
  so_far : InLoop l.limits (g.R.Read.remaining l.initial.reader.inner) (g.R.Read.remaining l.reader.inner) l.walk l.limits.file_source
      l.left;
  moved : l.reader.moved + l.left ≤ l.initial.reader.moved + l.limits.file_source;
  failures : l.reader.failures ≡ l.initial.reader.failures;
}

abbrev pub decreases-loop-count : goal.decreases-loop-count
decreases-loop-count g l = l.left
