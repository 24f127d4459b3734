use Rattle.std.proofs.Common.{None, refl}
use Rattle.p21_express_lexemes.specs.Lexemes.{lexemes_of}
use Rattle.p21_express_lexemes.specs.Taking.{take_name, name_or}
use Rattle.p21_express_lexemes.proofs.Contents.{name_keyword}
use Rattle.p21_express_lexemes.proofs.Taken.{at_found, at_ended, at_wrong}
use Rattle.p21_express_lexemes.proofs.lexemes.Lexemes.take_name.Goals as goal

pub returns-in-Some-clause-taken : goal.returns-in-Some-clause-taken
unfolding take_name
returns-in-Some-clause-taken c =
    at_found take_name name_or (λ l r. refl) c.args.self.now c.self.inside.left.now c.self.inside.front c.in-Found.lexeme c.in-Found.rest c.self.view_is c.self.invariant c.in-Found.is
    _ (λ meant m. c.in-Some.ensures.content meant m (lexemes_of c.in-Found.rest.now))

pub returns-in-None-clause-taken : goal.returns-in-None-clause-taken
unfolding take_name
returns-in-None-clause-taken c = (
  at_found take_name name_or (λ l r. refl) c.args.self.now c.self.inside.left.now c.self.inside.front c.in-Found.lexeme c.in-Found.rest c.self.view_is c.self.invariant c.in-Found.is
      None (λ meant m. c.in-None.ensures.content meant m (lexemes_of c.in-Found.rest.now)),
  refl,
)

pub returns-in-Ended-clause-taken : goal.returns-in-Ended-clause-taken
unfolding take_name
returns-in-Ended-clause-taken c = (at_ended take_name refl c.args.self.now c.self.inside.left.now c.self.inside.front c.self.view_is c.self.invariant c.in-Ended.is, refl)

pub returns-in-Wrong-clause-taken : goal.returns-in-Wrong-clause-taken
unfolding take_name
returns-in-Wrong-clause-taken c = (at_wrong take_name refl c.args.self.now c.self.inside.left.now c.self.inside.front c.self.view_is c.self.invariant c.in-Wrong.is, refl)

pub returns-in-Some-clause-keyword : goal.returns-in-Some-clause-keyword
returns-in-Some-clause-keyword c = name_keyword c.self.inside.left.now c.self.inside.front c.in-Found.lexeme c.in-Some.name c.in-Found.rest c.self.invariant c.in-Found.is c.in-Some.ensures.is
