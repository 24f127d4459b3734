use Rattle.std.proofs.Common.{Some, None, refl, ◌∙◌}
use Rattle.p21_express_lexemes.specs.Lexemes.{lexemes_of}
use Rattle.p21_express_lexemes.specs.Taking.{take_symbol, symbol_or}
use Rattle.p21_express_lexemes.proofs.Taken.{at_found, at_ended, at_wrong}
use Rattle.p21_express_lexemes.proofs.lexemes.Lexemes.take_symbol.Goals as goal

pub returns-then-is_symbol : goal.returns-then-is_symbol
unfolding take_symbol
returns-then-is_symbol c =
    at_found (take_symbol c.args.byte) (symbol_or c.args.byte) (λ l r. refl) c.args.self.now c.self.inside.left.now c.self.inside.front c.in-Found.lexeme c.in-Found.rest c.self.view_is c.self.invariant c.in-Found.is
    (Some (lexemes_of c.in-Found.rest.now)) (λ meant m. c.is_symbol.ensures meant m (lexemes_of c.in-Found.rest.now) ∙ rw (c.if-is_symbol.true) refl)

pub returns-else-is_symbol : goal.returns-else-is_symbol
unfolding take_symbol
returns-else-is_symbol c = (
  at_found (take_symbol c.args.byte) (symbol_or c.args.byte) (λ l r. refl) c.args.self.now c.self.inside.left.now c.self.inside.front c.in-Found.lexeme c.in-Found.rest c.self.view_is c.self.invariant c.in-Found.is
      None (λ meant m. c.is_symbol.ensures meant m (lexemes_of c.in-Found.rest.now) ∙ rw (c.if-is_symbol.false) refl),
  refl,
)

pub returns-in-Ended : goal.returns-in-Ended
unfolding take_symbol
returns-in-Ended c = (at_ended (take_symbol c.args.byte) refl c.args.self.now c.self.inside.left.now c.self.inside.front c.self.view_is c.self.invariant c.in-Ended.is, refl)

pub returns-in-Wrong : goal.returns-in-Wrong
unfolding take_symbol
returns-in-Wrong c = (at_wrong (take_symbol c.args.byte) refl c.args.self.now c.self.inside.left.now c.self.inside.front c.self.view_is c.self.invariant c.in-Wrong.is, refl)
