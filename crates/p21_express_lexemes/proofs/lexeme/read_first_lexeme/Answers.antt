use Rattle.std.proofs.Common.{ap}
use Rattle.p21_express_lexemes.specs.FirstLexeme.{first_lexeme_within}
use Rattle.p21_express_lexemes.specs.declared.lexeme.FirstLexeme.TheVariants.{Wrong}
use Rattle.p21_express_lexemes.proofs.Once.{reads_first_lexeme}
use Rattle.p21_express_lexemes.proofs.lexeme.read_first_lexeme.Goals as goal

pub returns-in-None-clause-laid : goal.returns-in-None-clause-laid
returns-in-None-clause-laid c = reads_first_lexeme c.args.bytes.now Wrong (ap first_lexeme_within c.in-None.ensures)
