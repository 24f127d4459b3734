use Rattle.std.proofs.Common.{ap}
use Rattle.p21_syntax_words.specs.KeywordCounts.{counts_of}
use Rattle.p21_syntax_words.proofs.counts.KeywordCounts.new.Goals as goal

pub returns : goal.returns
returns c = ap counts_of c.new.ensures.empty
