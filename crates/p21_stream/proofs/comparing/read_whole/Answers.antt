use Rattle.std.proofs.Common.{refl, subst}
use Rattle.p21_spec_basics.specs.Limits.{Limits}
use Rattle.p21_spec_schema.specs.Schema.{Schema}
use Rattle.p21_stream.proofs.Counts.{whole-input}
use Rattle.p21_stream.proofs.Feeding.{under, whole-refused}
use Rattle.p21_stream.specs.Held.{schema_of}
use Rattle.p21_stream.specs.ReaderInput.{ConsumesAtMost, IsWholeInput, RefusesRead}
use Rattle.p21_stream.proofs.comparing.read_whole.Goals as goal

pub returns-in-Err-clause-err : goal.returns-in-Err-clause-err
returns-in-Err-clause-err g c = subst (λ (l : Limits). RefusesRead (schema_of c.args.session) l (g.R.Read.remaining c.args.reader.now.inner)
    (g.R.Read.remaining c.feed_all.new.reader.inner) c.in-Err.refusal.fault) c.requires.limits c.in-Err.ensures.err

pub returns-in-Err-clause-consumed : goal.returns-in-Err-clause-consumed
returns-in-Err-clause-consumed g c = subst (λ (l : Limits). ConsumesAtMost l (g.R.Read.remaining c.args.reader.now.inner)
    (g.R.Read.remaining c.feed_all.new.reader.inner)) c.requires.limits c.in-Err.ensures.consumed

pub returns-in-Err-whole-clause-err : goal.returns-in-Err-whole-clause-err
returns-in-Err-whole-clause-err g c =
    under (λ (s : Schema) (l : Limits). RefusesRead s l (g.R.Read.remaining c.args.reader.now.inner)
    (g.R.Read.remaining c.feed_all.new.reader.inner) c.in-Err-whole.refusal.fault) _ _ c.args.session c.feed_all.new.session refl
    c.requires.limits c.in-Ok.ensures.schema
    (whole-refused _ _ c.feed_all.new.session c.in-Err-whole.refusal c.in-Ok.ensures.ok c.in-Err-whole.ensures.kind
    c.in-Err-whole.ensures.gives)

pub returns-in-Err-whole-clause-consumed : goal.returns-in-Err-whole-clause-consumed
returns-in-Err-whole-clause-consumed g c = subst (λ (l : Limits). ConsumesAtMost l (g.R.Read.remaining c.args.reader.now.inner)
    (g.R.Read.remaining c.feed_all.new.reader.inner)) c.requires.limits c.in-Ok.ensures.consumed

pub returns-in-Ok-whole-clause-ok : goal.returns-in-Ok-whole-clause-ok
returns-in-Ok-whole-clause-ok g c =
    under (λ (s : Schema) (l : Limits). IsWholeInput s l (g.R.Read.remaining c.args.reader.now.inner)
    (g.R.Read.remaining c.feed_all.new.reader.inner) c.in-Ok-whole.kept) _ _ c.args.session c.feed_all.new.session refl
    c.requires.limits c.in-Ok.ensures.schema
    (whole-input _ _ c.feed_all.new.session c.in-Ok-whole.kept c.in-Ok.ensures.ok c.in-Ok-whole.ensures.gives)

pub returns-in-Ok-whole-clause-consumed : goal.returns-in-Ok-whole-clause-consumed
returns-in-Ok-whole-clause-consumed g c = subst (λ (l : Limits). ConsumesAtMost l (g.R.Read.remaining c.args.reader.now.inner)
    (g.R.Read.remaining c.feed_all.new.reader.inner)) c.requires.limits c.in-Ok.ensures.consumed

pub returns-in-Ok-whole-clause-lines : goal.returns-in-Ok-whole-clause-lines
returns-in-Ok-whole-clause-lines g c = λ lines keeps. c.in-Ok-whole.ensures.lines lines (c.in-Ok.ensures.lines lines keeps)
