use Rattle.std.proofs.Common.{sym, ◌∙◌, arith}
use Rattle.p21_express_lexemes.proofs.Words.{differs_at}
use Rattle.p21_express_lexemes.proofs.reserved.is_same_word.Goals as goal

pub returns-then-upper-word : goal.returns-then-upper-word
returns-then-upper-word c = sym (differs_at c.args.bytes.now c.args.word.now c.loop-count.count (omega arith) (omega arith) (λ e. c.if-upper-word.true (c.upper.ensures ∙ e)))
