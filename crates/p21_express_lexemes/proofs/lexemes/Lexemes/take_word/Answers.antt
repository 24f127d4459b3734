use Rattle.std.proofs.Common.{Some, None, refl, ◌∙◌}
use Rattle.p21_express_lexemes.specs.Lexemes.{lexemes_of}
use Rattle.p21_express_lexemes.specs.Taking.{take_word, word_or}
use Rattle.p21_express_lexemes.proofs.Taken.{at_found, at_ended, at_wrong}
use Rattle.p21_express_lexemes.proofs.lexemes.Lexemes.take_word.Goals as goal

pub returns-then-is_word : goal.returns-then-is_word
unfolding take_word
returns-then-is_word c =
    at_found (take_word c.args.word.now) (word_or c.args.word.now) (λ l r. refl) c.args.self.now c.self.inside.left.now c.self.inside.front c.in-Found.lexeme c.in-Found.rest c.self.view_is c.self.invariant c.in-Found.is
    (Some (lexemes_of c.in-Found.rest.now)) (λ meant m. c.is_word.ensures meant m (lexemes_of c.in-Found.rest.now) ∙ rw (c.if-is_word.true) refl)

pub returns-else-is_word : goal.returns-else-is_word
unfolding take_word
returns-else-is_word c = (
  at_found (take_word c.args.word.now) (word_or c.args.word.now) (λ l r. refl) c.args.self.now c.self.inside.left.now c.self.inside.front c.in-Found.lexeme c.in-Found.rest c.self.view_is c.self.invariant c.in-Found.is
      None (λ meant m. c.is_word.ensures meant m (lexemes_of c.in-Found.rest.now) ∙ rw (c.if-is_word.false) refl),
  refl,
)

pub returns-in-Ended : goal.returns-in-Ended
unfolding take_word
returns-in-Ended c = (at_ended (take_word c.args.word.now) refl c.args.self.now c.self.inside.left.now c.self.inside.front c.self.view_is c.self.invariant c.in-Ended.is, refl)

pub returns-in-Wrong : goal.returns-in-Wrong
unfolding take_word
returns-in-Wrong c = (at_wrong (take_word c.args.word.now) refl c.args.self.now c.self.inside.left.now c.self.inside.front c.self.view_is c.self.invariant c.in-Wrong.is, refl)
