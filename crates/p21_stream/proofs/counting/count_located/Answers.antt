use Rattle.std.proofs.Common.{subst}
use Rattle.p21_spec_basics.specs.Limits.{Limits}
use Rattle.p21_spec_schema.specs.Schema.{Schema}
use Rattle.p21_stream.proofs.Counts.{whole-counted}
use Rattle.p21_stream.proofs.Feeding.{under, whole-refused}
use Rattle.p21_stream.specs.ReaderInput.{ConsumesAtMost, IsCountedInput, RefusesRead}
use Rattle.p21_stream.proofs.counting.count_located.Goals as goal

pub returns-in-Err-count-clause-err : goal.returns-in-Err-count-clause-err
returns-in-Err-count-clause-err g c =
    under (λ (s : Schema) (l : Limits). RefusesRead s l (g.R.Read.remaining c.args.reader.now.inner)
    (g.R.Read.remaining c.feed_all.new.reader.inner) c.in-Err-count.refusal.fault) _ _ c.counting-session.result c.feed_all.new.session
    c.counting-session.ensures.schema c.counting-session.ensures.limits c.in-Ok.ensures.schema
    (whole-refused _ _ c.feed_all.new.session c.in-Err-count.refusal c.in-Ok.ensures.ok c.in-Err-count.ensures.kind
    c.in-Err-count.ensures.gives)

pub returns-in-Err-count-clause-consumed : goal.returns-in-Err-count-clause-consumed
returns-in-Err-count-clause-consumed g c = subst (λ (l : Limits). ConsumesAtMost l (g.R.Read.remaining c.args.reader.now.inner)
    (g.R.Read.remaining c.feed_all.new.reader.inner)) c.counting-session.ensures.limits c.in-Ok.ensures.consumed

pub returns-in-Ok-count-clause-ok : goal.returns-in-Ok-count-clause-ok
returns-in-Ok-count-clause-ok g c =
    under (λ (s : Schema) (l : Limits). IsCountedInput s l (g.R.Read.remaining c.args.reader.now.inner)
    (g.R.Read.remaining c.feed_all.new.reader.inner) c.in-Ok-count.counted) _ _ c.counting-session.result c.feed_all.new.session
    c.counting-session.ensures.schema c.counting-session.ensures.limits c.in-Ok.ensures.schema
    (whole-counted _ _ c.feed_all.new.session c.in-Ok-count.counted c.in-Ok.ensures.ok c.in-Ok-count.ensures.gives)
