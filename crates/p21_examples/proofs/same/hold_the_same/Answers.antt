use Rattle.std.proofs.Common.{ap}
use Rattle.std.proofs.lemmas.Result.{IfErr-weaker, IfOk-weaker}
use Rattle.p21_examples.proofs.Compared.{refused-of, tells-same}
use Rattle.p21_examples.proofs.same.hold_the_same.Goals as goal

pub returns-clause-same : goal.returns-clause-same
returns-clause-same g c =
    IfOk-weaker c.same_meaning.result _ _ (λ same h. tells-same _ _ _ _ _ _ _ _ same (ap g.R.Read.remaining c.new-first.ensures.inner) (ap g.S.Read.remaining c.new-second.ensures.inner) h) c.same_meaning.ensures.ok

pub returns-clause-refused : goal.returns-clause-refused
returns-clause-refused g c =
    IfErr-weaker c.same_meaning.result _ _ (λ answer h. refused-of _ _ c.same_meaning.ensures.claim _ _ _ _ _ _ answer.0 answer.1.fault (ap g.R.Read.remaining c.new-first.ensures.inner) (ap g.S.Read.remaining c.new-second.ensures.inner) h) c.same_meaning.ensures.err
