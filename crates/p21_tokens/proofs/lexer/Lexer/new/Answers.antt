use Rattle.std.proofs.Common.{refl}
use Rattle.p21_tokens.proofs.Extending.{stands-new}
use Rattle.p21_tokens.proofs.lexer.Lexer.new.Goals as goal

pub returns-clause-stands : goal.returns-clause-stands
returns-clause-stands c = stands-new _ (rw (c.new.ensures.items, c.new-2.ensures) refl) refl refl refl
