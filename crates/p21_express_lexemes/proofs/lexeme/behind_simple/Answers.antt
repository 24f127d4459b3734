use Rattle.std.proofs.Common.{sym, ◌∙◌}
use Rattle.p21_express_lexemes.proofs.Strings.{leads_close, leads_open}
use Rattle.p21_express_lexemes.proofs.lexeme.behind_simple.Goals as goal

pub returns-then-begins : goal.returns-then-begins
returns-then-begins c =
    rw c.behind.ensures (leads_close c.args.bytes.now c.loop-rest.rest.now c.loop-rest.invariant (sym c.begins_both.ensures ∙ c.if-begins_both.false) (sym c.begins.ensures ∙ c.if-begins.true))

pub returns : goal.returns
returns c = leads_open c.args.bytes.now c.loop-rest.rest.now c.loop-rest.invariant (sym c.is_empty.ensures ∙ c.loop-rest-test.false)
