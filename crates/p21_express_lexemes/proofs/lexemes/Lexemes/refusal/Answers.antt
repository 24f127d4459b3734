use Rattle.std.proofs.Common.{refl}
use Rattle.p21_express_lexemes.specs.Fault.{refusal_of, shown_by}
use Rattle.p21_express_lexemes.proofs.Taken.{shown_found, shown_ended, shown_wrong}
use Rattle.p21_express_lexemes.proofs.lexemes.Lexemes.refusal.Goals as goal

pub returns-in-Found : goal.returns-in-Found
unfolding refusal_of
returns-in-Found c = shown_found (refusal_of c.args.wanted) (shown_by c.args.wanted) (λ l r. refl) c.args.self.now c.self.inside.left.now c.self.inside.front c.in-Found.lexeme c.in-Found._rest c.self.view_is c.self.invariant c.in-Found.is _ c.shown_by.ensures

pub returns-in-Ended : goal.returns-in-Ended
unfolding refusal_of
returns-in-Ended c = shown_ended (refusal_of c.args.wanted) c.args.self.now c.self.inside.left.now c.self.inside.front c.self.view_is c.self.invariant c.in-Ended.is

pub returns-in-Wrong : goal.returns-in-Wrong
unfolding refusal_of
returns-in-Wrong c = shown_wrong (refusal_of c.args.wanted) c.args.self.now c.self.inside.left.now c.self.inside.front c.self.view_is c.self.invariant c.in-Wrong.is
