use Rattle.p21_syntax_words.proofs.Putting.{whole-header}
use Rattle.p21_syntax_words.proofs.header.header_words.Goals as goal

pub returns : goal.returns
returns c = whole-header c.args.header.now c.loop-part.text.items c.loop-part.part-index c.loop-part-test.false c.loop-part.invariant
