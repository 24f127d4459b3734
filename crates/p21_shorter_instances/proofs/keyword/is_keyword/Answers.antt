use Rattle.std.proofs.lemmas.Bool.{eqb-true}
use Rattle.p21_shorter_instances.proofs.Keywords.{whole-keyword}
use Rattle.p21_shorter_instances.proofs.keyword.is_keyword.Goals as goal

pub returns-in-Some : goal.returns-in-Some
returns-in-Some c = λ same. whole-keyword c.args.bytes.now c.in-Some.word.now c.in-Some.ensures (eqb-true _ _ same)
