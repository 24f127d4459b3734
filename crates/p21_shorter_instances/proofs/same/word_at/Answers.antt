use Rattle.p21_shorter_instances.proofs.Words.{word-is}
use Rattle.p21_shorter_instances.proofs.same.word_at.Goals as goal

pub returns : goal.returns
returns c = word-is c.args.bytes.now c.args.at c.from_le_bytes.result c.in-Some.front.now c.type_inv.bytes c.requires
    c.in-Some.ensures.cases.0 c.from_le_bytes.ensures
