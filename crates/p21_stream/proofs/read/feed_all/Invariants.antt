use Rattle.std.proofs.Common.{◌≡◌, ◌≤◌, ◌+◌}
use Rattle.p21_stream.specs.Bounds.{StaysKept}
use Rattle.p21_stream.proofs.Feeding.{InLoop}
use Rattle.p21_stream.proofs.read.feed_all.Given as goal

abbrev pub invariant-loop-count : goal.invariant-loop-count
invariant-loop-count g l = record {
  fed : InLoop (g.R.Read.remaining l.initial.reader.inner) (g.R.Read.remaining l.reader.inner) l.initial.session l.session l.most l.left;
  moved : l.reader.moved + l.left ≤ l.initial.reader.moved + l.most;
  lines : StaysKept l.initial.session.refused l.initial.session.kept l.session.refused l.session.kept;
  failures : l.reader.failures ≡ l.initial.reader.failures;
}

abbrev pub decreases-loop-count : goal.decreases-loop-count
decreases-loop-count g l = l.left
