use Rattle.std.proofs.Common.{◌≡◌, ℕ, true, false, Option, sym, subst, ◌∙◌, arith}
use Rattle.p21_stream.proofs.SurveyFeeding.{consumed-most, failed-to, long-to, whole-to}
use Rattle.p21_stream.specs.SurveyFeeding.{SurveysMore}
use Rattle.p21_stream.proofs.listing.feed_all.Goals as goal

pub returns-in-Err-clause-consumed : goal.returns-in-Err-clause-consumed
returns-in-Err-clause-consumed g c =
    consumed-most c.args.limits _ _ _ c.loop-limits.survey c.loop-limits.taken c.loop-limits.invariant.within c.loop-limits.invariant.from
    c.in-Err.ensures.consumed

pub returns-in_default-clause-surveyed : goal.returns-in_default-clause-surveyed
returns-in_default-clause-surveyed g c =
    let old = g.R.Read.remaining c.loop-limits.reader.inner in
    let new = g.R.Read.remaining c.feed_piece.new.reader.inner in
    let within = c.loop-limits.invariant.within in
    failed-to c.args.limits _ old new c.loop-limits.survey c.feed_piece.new.survey c.loop-limits.taken (omega arith)
    c.loop-limits.invariant.from
    (subst (λ (o : Option ℕ). SurveysMore old new c.loop-limits.survey c.feed_piece.new.survey c.loop-limits.taken o) c.in_default.is
    c.in-Ok.ensures.more)
    (λ over. (let no : false ≡ true = sym c.if-has_ended.false ∙ c.has_ended.ensures.1 over in cc))

pub returns-then-next-taken-clause-surveyed : goal.returns-then-next-taken-clause-surveyed
returns-then-next-taken-clause-surveyed g c =
    let old = g.R.Read.remaining c.loop-limits.reader.inner in
    let new = g.R.Read.remaining c.feed_piece.new.reader.inner in
    whole-to c.args.limits _ old new c.loop-limits.survey c.feed_piece.new.survey c.loop-limits.taken c.in-Some.next (omega arith)
    c.loop-limits.invariant.from
    (subst (λ (o : Option ℕ). SurveysMore old new c.loop-limits.survey c.feed_piece.new.survey c.loop-limits.taken o) c.in-Some.is
    c.in-Ok.ensures.more) c.if-next-taken.true

pub returns-then-next-taken-clause-consumed : goal.returns-then-next-taken-clause-consumed
returns-then-next-taken-clause-consumed g c =
    consumed-most c.args.limits _ _ _ c.loop-limits.survey c.loop-limits.taken c.loop-limits.invariant.within c.loop-limits.invariant.from
    c.in-Ok.ensures.consumed

pub returns-then-next-file_source-clause-surveyed : goal.returns-then-next-file_source-clause-surveyed
returns-then-next-file_source-clause-surveyed g c =
    let old = g.R.Read.remaining c.loop-limits.reader.inner in
    let new = g.R.Read.remaining c.feed_piece.new.reader.inner in
    let long = c.if-next-file_source.true in
    let limit = c.file_source.ensures in
    long-to c.args.limits _ old new c.loop-limits.survey c.feed_piece.new.survey c.loop-limits.taken c.in-Some.next (omega arith)
    c.loop-limits.invariant.from
    (subst (λ (o : Option ℕ). SurveysMore old new c.loop-limits.survey c.feed_piece.new.survey c.loop-limits.taken o) c.in-Some.is
    c.in-Ok.ensures.more) (omega (arith, long, limit))

pub returns-then-next-file_source-clause-consumed : goal.returns-then-next-file_source-clause-consumed
returns-then-next-file_source-clause-consumed g c =
    consumed-most c.args.limits _ _ _ c.loop-limits.survey c.loop-limits.taken c.loop-limits.invariant.within c.loop-limits.invariant.from
    c.in-Ok.ensures.consumed
