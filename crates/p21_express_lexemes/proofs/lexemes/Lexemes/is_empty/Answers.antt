use Rattle.std.proofs.Common.{refl}
use Rattle.p21_express_lexemes.proofs.Taken.{some_left, none_left, wrong_left}
use Rattle.p21_express_lexemes.proofs.lexemes.Lexemes.is_empty.Goals as goal

pub returns-in-Found : goal.returns-in-Found
returns-in-Found c = (λ h. cc, λ e. absurd (some_left c.args.self.now c.self.inside.left.now c.self.inside.front c.in-Found._lexeme c.in-Found._rest c.self.view_is c.self.invariant c.in-Found.is e))

pub returns-in-Ended : goal.returns-in-Ended
returns-in-Ended c = (λ h. none_left c.args.self.now c.self.inside.left.now c.self.inside.front c.self.view_is c.self.invariant c.in-Ended.is, λ e. refl)

pub returns-in-Wrong : goal.returns-in-Wrong
returns-in-Wrong c = (λ h. cc, λ e. absurd (wrong_left c.args.self.now c.self.inside.left.now c.self.inside.front c.self.view_is c.self.invariant c.in-Wrong.is e))
