use Rattle.std.proofs.Common.{ap, refl}
use Rattle.p21_spec_schema.specs.Express.{simple_string}
use Rattle.p21_express_lexemes.specs.FirstLexeme.{simple_of}
use Rattle.p21_express_lexemes.proofs.lexeme.simple_string.Goals as goal

pub returns-in-Some : goal.returns-in-Some
returns-in-Some c = let h = c.in-Some.ensures in (simple_string h.0, ap simple_of h.1, (h.0, refl))
