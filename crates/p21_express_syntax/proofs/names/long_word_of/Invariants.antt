use Rattle.std.proofs.Common.{◌≡◌, map, take}
use Rattle.p21_spec_schema.specs.Express.{upper}
use Rattle.p21_express_syntax.proofs.names.long_word_of.Given as goal

abbrev pub invariant-loop-byte : goal.invariant-loop-byte
invariant-loop-byte l = l.bytes.items ≡ map upper (take l.byte-index l.name)
