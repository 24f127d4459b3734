use Rattle.std.proofs.Common.{◌≡◌, map, drop}
use Rattle.p21_spec_schema.specs.Express.{upper}
use Rattle.p21_express_lexemes.specs.Words.{is_among}
use Rattle.p21_express_lexemes.specs.Words.{all_bytes_seen}
use Rattle.p21_express_lexemes.proofs.reserved.is_among.Given as goal

-- it is one of the words if it is one of those left
abbrev pub invariant-loop-word : goal.invariant-loop-word
invariant-loop-word l = is_among (all_bytes_seen l.words) (map upper l.name) ≡ is_among (all_bytes_seen (drop l.word-index l.words)) (map upper l.name)
