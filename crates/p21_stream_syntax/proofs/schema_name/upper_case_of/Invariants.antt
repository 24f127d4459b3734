use Rattle.std.proofs.Common.{◌≡◌, map, take}
use Rattle.p21_spec_schema.specs.Express.{upper}
use Rattle.p21_stream_syntax.proofs.schema_name.upper_case_of.Given as goal

abbrev pub invariant-loop-character : goal.invariant-loop-character
invariant-loop-character l = l.bytes.items ≡ map upper (take l.character-index l.characters)
