use Rattle.std.proofs.Common.{◌≡◌, ◌<◌, ℕ, get_or}
use Rattle.p21_spec_schema.specs.Express.{upper}
use Rattle.p21_stream_syntax.proofs.schema_name.is_upper_case_of.Given as goal

abbrev pub invariant-loop-place : goal.invariant-loop-place
invariant-loop-place l = (k : ℕ) → k < l.place → upper (get_or l.characters k 0) ≡ get_or l.bytes k 0
