use Rattle.std.proofs.Common.{◌++◌, ℕ, List, drop, length, refl, sym, ap, subst, ◌∙◌, append-nil}
use Rattle.p21_stream_survey.proofs.LastBytes.{none-in, open-ends, open-passes}
use Rattle.p21_stream_survey.specs.Finishing.{CountsEnd}
use Rattle.p21_stream_survey.specs.Unended.{EndsUnended}
use Rattle.p21_stream_survey.specs.declared.finishing.Ended.{Ended}
use Rattle.p21_stream_survey.specs.declared.stage.Stage.TheVariants as stage
use Rattle.p21_stream_survey.proofs.survey.Survey.pass_open.Goals as goal

pub end_unended-requires-clause-none : goal.end_unended-requires-clause-none
end_unended-requires-clause-none c =
    none-in c.args.bytes.now c.deref.result.now c.in-Some.statement.now c.args.at c.requires.none c.in-Some.ensures

pub returns-in-Ok-Listed : goal.returns-in-Ok-Listed
returns-in-Ok-Listed c =
    let old = c.args.self.now in
    let listing = c.end_unended.new.listing in
    let front : List ℕ = c.deref-2.result.now in
    let ahead : List ℕ = drop c.args.at c.args.bytes.now in
    open-ends old (record old { log = c.end_unended.new.log; listing = listing; stage = stage.Ended c.in-Ok-Listed.extent }) front
    c.in-Some.statement.now ahead c.in-Ok-Listed.extent (c.deref-2.ensures.value ∙ (c.in-Ok.ensures ∙ append-nil old.log.buffer))
    (c.in-Some.ensures.statement_is ∙ ap (λ (l : List ℕ). l ++ ahead) (c.deref.ensures.value ∙ sym c.deref-2.ensures.value))
    (c.is_reading.ensures c.if-not-is_reading.false) refl (record { rules = refl; limits = refl; most = refl }) refl
    (subst (λ (e : Ended). EndsUnended old.limits old.log old.listing front c.in-Some.statement.now e c.end_unended.new.log listing)
    c.in-Ok-Listed.field-0-is c.in-Ok-Listed.ensures.ends)
    (λ fewer. subst (λ (e : Ended). CountsEnd old.most (length old.listing.list.items) e (length listing.list.items))
    c.in-Ok-Listed.field-0-is (c.in-Ok-Listed.ensures.counts fewer)) c.in-Ok-Listed.ensures.no_fewer c.in-Ok-Listed.ensures.of_file

pub returns-in-Ok-PassedOver : goal.returns-in-Ok-PassedOver
returns-in-Ok-PassedOver c =
    let old = c.args.self.now in
    let listing = c.end_unended.new.listing in
    let front : List ℕ = c.deref-2.result.now in
    let ahead : List ℕ = drop c.args.at c.args.bytes.now in
    let reading = c.is_reading.ensures c.if-not-is_reading.false in
    open-passes old (record old { log = c.end_unended.new.log; listing = listing }) front c.in-Some.statement.now ahead
    (drop c.place_in.result c.args.bytes.now) c.in-Ok-PassedOver.count
    (c.deref-2.ensures.value ∙ (c.in-Ok.ensures ∙ append-nil old.log.buffer))
    (c.in-Some.ensures.statement_is ∙ ap (λ (l : List ℕ). l ++ ahead) (c.deref.ensures.value ∙ sym c.deref-2.ensures.value))
    reading reading (record { rules = refl; limits = refl; most = refl }) refl
    (subst (λ (e : Ended). EndsUnended old.limits old.log old.listing front c.in-Some.statement.now e c.end_unended.new.log listing)
    c.in-Ok-PassedOver.field-0-is c.in-Ok-PassedOver.ensures.ends)
    (λ fewer. subst (λ (e : Ended). CountsEnd old.most (length old.listing.list.items) e (length listing.list.items))
    c.in-Ok-PassedOver.field-0-is (c.in-Ok-PassedOver.ensures.counts fewer)) c.place_in.ensures
