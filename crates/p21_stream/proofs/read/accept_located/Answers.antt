use Rattle.std.proofs.Common.{subst}
use Rattle.p21_spec_basics.specs.Limits.{Limits}
use Rattle.p21_spec_schema.specs.Schema.{Schema}
use Rattle.p21_stream.proofs.Feeding.{under, whole-refused}
use Rattle.p21_stream.specs.ReaderInput.{ConsumesAtMost, RefusesRead}
use Rattle.p21_stream.proofs.read.accept_located.Goals as goal

pub returns-in-Err-finish-clause-err : goal.returns-in-Err-finish-clause-err
returns-in-Err-finish-clause-err g c =
    under (λ (s : Schema) (l : Limits). RefusesRead s l (g.R.Read.remaining c.args.reader.now.inner)
    (g.R.Read.remaining c.feed_all.new.reader.inner) c.in-Err-finish.refusal.fault) _ _ c.keeping-session.result c.feed_all.new.session
    c.keeping-session.ensures.schema c.keeping-session.ensures.limits c.in-Ok.ensures.schema
    (whole-refused _ _ c.feed_all.new.session c.in-Err-finish.refusal c.in-Ok.ensures.ok c.in-Err-finish.ensures.kind
    c.in-Err-finish.ensures.gives)

pub returns-in-Err-finish-clause-consumed : goal.returns-in-Err-finish-clause-consumed
returns-in-Err-finish-clause-consumed g c = subst (λ (l : Limits). ConsumesAtMost l (g.R.Read.remaining c.args.reader.now.inner)
    (g.R.Read.remaining c.feed_all.new.reader.inner)) c.keeping-session.ensures.limits c.in-Ok.ensures.consumed

pub finish-requires : goal.finish-requires
finish-requires g c = c.in-Ok.ensures.lines _ c.keeping-session.ensures.lines
