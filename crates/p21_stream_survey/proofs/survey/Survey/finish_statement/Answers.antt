use Rattle.std.proofs.Common.{drop, length, refl, sym, subst, ◌∙◌, append-nil}
use Rattle.std.proofs.lemmas.Result.{IfOk-weaker}
use Rattle.p21_stream_survey.proofs.LastStage.{statement-ends, statement-passes}
use Rattle.p21_stream_survey.specs.Finishing.{CountsEnd, EndsStatement}
use Rattle.p21_stream_survey.specs.ReadOut.{EndsStage, IsAgain}
use Rattle.p21_stream_survey.specs.declared.at_end.AtEnd.{AtEnd}
use Rattle.p21_stream_survey.specs.declared.finishing.Ended.{Ended}
use Rattle.p21_stream_survey.specs.declared.finishing.Ended.TheVariants.{PassedOver}
use Rattle.p21_stream_survey.specs.declared.stage.Stage.TheVariants.{Reading}
use Rattle.p21_stream_survey.proofs.survey.Survey.finish_statement.Goals as goal

pub returns-in-Ok-Listed-clause-ends : goal.returns-in-Ok-Listed-clause-ends
returns-in-Ok-Listed-clause-ends c =
    let old = c.args.self.now in
    let listing = c.end_statement.new.listing in
    statement-ends old (record old { log = c.end_statement.new.log; listing = listing }) c.deref.result.now c.in-Ok-Listed.extent
    (c.deref.ensures.value ∙ (c.in-Ok.ensures ∙ append-nil old.log.buffer)) (record { rules = refl; limits = refl; most = refl }) refl
    (subst (λ (e : Ended). EndsStatement old.limits old.log old.listing c.deref.result.now e c.end_statement.new.log listing)
    c.in-Ok-Listed.field-0-is c.in-Ok-Listed.ensures.ends)
    (λ fewer. subst (λ (e : Ended). CountsEnd old.most (length old.listing.list.items) e (length listing.list.items))
    c.in-Ok-Listed.field-0-is (c.in-Ok-Listed.ensures.counts fewer)) c.in-Ok-Listed.ensures.of_file

pub returns-in-Ok-PassedOver-clause-ends : goal.returns-in-Ok-PassedOver-clause-ends
returns-in-Ok-PassedOver-clause-ends c =
    let old = c.args.self.now in
    let listing = c.end_statement.new.listing in
    let count = c.in-Ok-PassedOver.count in
    IfOk-weaker c.again.result (λ (ended : AtEnd). IsAgain (drop count c.deref-in-Ok-PassedOver.result.now) ended)
    (λ (ended : AtEnd). EndsStage old Reading ended (record old { log = c.end_statement.new.log; listing = listing }))
    (λ ended behind. statement-passes old (record old { log = c.end_statement.new.log; listing = listing })
    c.deref-in-Ok-PassedOver.result.now count ended (c.deref-in-Ok-PassedOver.ensures.value
    ∙ (c.in-Ok.ensures ∙ append-nil old.log.buffer)) (record { rules = refl; limits = refl; most = refl }) refl
    (subst (λ l. EndsStatement old.limits old.log old.listing l (PassedOver count) c.end_statement.new.log listing)
    (c.deref.ensures.value ∙ sym c.deref-in-Ok-PassedOver.ensures.value)
    (subst (λ (e : Ended). EndsStatement old.limits old.log old.listing c.deref.result.now e c.end_statement.new.log listing)
    c.in-Ok-PassedOver.field-0-is c.in-Ok-PassedOver.ensures.ends))
    (λ fewer. subst (λ (e : Ended). CountsEnd old.most (length old.listing.list.items) e (length listing.list.items))
    c.in-Ok-PassedOver.field-0-is (c.in-Ok-PassedOver.ensures.counts fewer)) behind) c.again.ensures
