use Rattle.std.proofs.Common.{Some, None, refl, ◌∙◌}
use Rattle.p21_express_lexemes.specs.Lexemes.{lexemes_of}
use Rattle.p21_express_lexemes.specs.Taking.{take_simple_string, simple_string_or}
use Rattle.p21_express_lexemes.proofs.Taken.{at_found, at_ended, at_wrong}
use Rattle.p21_express_lexemes.proofs.lexemes.Lexemes.take_simple_string.Goals as goal

pub returns-then-is_simple_string : goal.returns-then-is_simple_string
unfolding take_simple_string
returns-then-is_simple_string c =
    at_found take_simple_string simple_string_or (λ l r. refl) c.args.self.now c.self.inside.left.now c.self.inside.front c.in-Found.lexeme c.in-Found.rest c.self.view_is c.self.invariant c.in-Found.is
    (Some (lexemes_of c.in-Found.rest.now)) (λ meant m. c.is_simple_string.ensures meant m (lexemes_of c.in-Found.rest.now) ∙ rw (c.if-is_simple_string.true) refl)

pub returns-else-is_simple_string : goal.returns-else-is_simple_string
unfolding take_simple_string
returns-else-is_simple_string c = (
  at_found take_simple_string simple_string_or (λ l r. refl) c.args.self.now c.self.inside.left.now c.self.inside.front c.in-Found.lexeme c.in-Found.rest c.self.view_is c.self.invariant c.in-Found.is
      None (λ meant m. c.is_simple_string.ensures meant m (lexemes_of c.in-Found.rest.now) ∙ rw (c.if-is_simple_string.false) refl),
  refl,
)

pub returns-in-Ended : goal.returns-in-Ended
unfolding take_simple_string
returns-in-Ended c = (at_ended take_simple_string refl c.args.self.now c.self.inside.left.now c.self.inside.front c.self.view_is c.self.invariant c.in-Ended.is, refl)

pub returns-in-Wrong : goal.returns-in-Wrong
unfolding take_simple_string
returns-in-Wrong c = (at_wrong take_simple_string refl c.args.self.now c.self.inside.left.now c.self.inside.front c.self.view_is c.self.invariant c.in-Wrong.is, refl)
