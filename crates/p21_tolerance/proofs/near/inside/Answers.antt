use Rattle.p21_tolerance.proofs.NearLists.{inside-found}
use Rattle.p21_tolerance.proofs.near.inside.Goals as goal

pub returns-clause-some : goal.returns-clause-some
returns-clause-some c p text =
    inside-found c.args.value.text.now c.in-Some.word.now c.in-Some.inner.text.now p ((c.is_typed.ensures p text).0 c.if-not-is_typed.false)
    text c.in-Some.ensures
