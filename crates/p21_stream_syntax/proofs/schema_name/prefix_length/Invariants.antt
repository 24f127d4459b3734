use Rattle.std.proofs.Common.{◌<◌, ℕ, get_or}
use Rattle.p21_spec_schema.specs.Express.{IsIdentifierByte}
use Rattle.p21_stream_syntax.proofs.schema_name.prefix_length.Given as goal

abbrev pub invariant-loop-place : goal.invariant-loop-place
invariant-loop-place l = (k : ℕ) → k < l.place → IsIdentifierByte (get_or l.text k 0)
