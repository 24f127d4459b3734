use Rattle.std.proofs.Common.{refl, ap, sym, ◌∙◌}
use Rattle.p21_express_lexemes.specs.Runs.{marks, first_is as first_passes}
use Rattle.p21_express_lexemes.proofs.Taken.{first_is, none_left, wrong_items}
use Rattle.p21_express_lexemes.proofs.lexemes.Lexemes.take.Goals as goal

pub returns-then-is_marked : goal.returns-then-is_marked
returns-then-is_marked c =
    let k = first_is c.self.inside.left.now c.self.inside.front c.in-Found.lexeme c.in-Found.rest c.self.invariant c.in-Found.is in
    (k.0, sym c.self.view_is ∙ k.2, sym (c.is_marked.ensures k.0 k.1) ∙ c.if-is_marked.true)

pub returns-else-is_marked : goal.returns-else-is_marked
returns-else-is_marked c =
    let k = first_is c.self.inside.left.now c.self.inside.front c.in-Found.lexeme c.in-Found.rest c.self.invariant c.in-Found.is in
    (refl, ap (first_passes (marks c.args.mark)) (sym c.self.view_is ∙ k.2) ∙ (sym (c.is_marked.ensures k.0 k.1) ∙ c.if-is_marked.false))

pub returns-in-Ended : goal.returns-in-Ended
returns-in-Ended c = (refl, ap (first_passes (marks c.args.mark)) (none_left c.args.self.now c.self.inside.left.now c.self.inside.front c.self.view_is c.self.invariant c.in-Ended.is))

pub returns-in-Wrong : goal.returns-in-Wrong
returns-in-Wrong c = (refl, ap (first_passes (marks c.args.mark)) (wrong_items c.args.self.now c.self.inside.left.now c.self.inside.front c.self.view_is c.self.invariant c.in-Wrong.is))
