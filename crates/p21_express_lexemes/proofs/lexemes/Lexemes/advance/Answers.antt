use Rattle.std.proofs.Common.{refl, sym, ◌∙◌}
use Rattle.p21_express_lexemes.proofs.Taken.{first_is, no_first_ended, no_first_wrong}
use Rattle.p21_express_lexemes.proofs.lexemes.Lexemes.advance.Goals as goal

pub returns-in-Found : goal.returns-in-Found
returns-in-Found c = let k = first_is c.self.inside.left.now c.self.inside.front c.in-Found._lexeme c.in-Found.rest c.self.invariant c.in-Found.is in (k.0, sym c.self.view_is ∙ k.2)

pub returns-in-Ended : goal.returns-in-Ended
returns-in-Ended c = (refl, no_first_ended c.args.self.now c.self.inside.left.now c.self.inside.front c.self.view_is c.self.invariant c.in-Ended.is)

pub returns-in-Wrong : goal.returns-in-Wrong
returns-in-Wrong c = (refl, no_first_wrong c.args.self.now c.self.inside.left.now c.self.inside.front c.self.view_is c.self.invariant c.in-Wrong.is)
