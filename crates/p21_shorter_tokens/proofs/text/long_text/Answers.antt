use Rattle.std.proofs.Common.{arith}
use Rattle.p21_shorter_tokens.proofs.TextTokens.{more_characters, size-within}
use Rattle.p21_shorter_tokens.proofs.text.long_text.Goals as goal

pub overflow_add-characters : goal.overflow_add-characters
overflow_add-characters c =
    let whole = more_characters c.args.inside.now c.loop-count.count c.loop-count.characters c.some_characters-bytes.result.0 c.some_characters-bytes.result.1 c.loop-count.invariant c.some_characters-bytes.ensures in
    let within = whole.within in
    let fewer = size-within c.args.inside.now _ _ whole in
    omega arith

pub loop-count-preserved : goal.loop-count-preserved
loop-count-preserved c = more_characters c.args.inside.now c.loop-count.count c.loop-count.characters c.some_characters-bytes.result.0 c.some_characters-bytes.result.1 c.loop-count.invariant c.some_characters-bytes.ensures
