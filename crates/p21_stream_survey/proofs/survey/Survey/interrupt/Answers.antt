use Rattle.std.proofs.Common.{◌∙◌, refl, subst, sym}
use Rattle.std.proofs.lemmas.Result.{IfOk-weaker}
use Rattle.p21_stream_survey.proofs.LastStage.{interrupted-ends, interrupts-restaged}
use Rattle.p21_stream_survey.specs.Ending.{ListsRead}
use Rattle.p21_stream_survey.specs.ReadOut.{Interrupts, ListsInterrupted}
use Rattle.p21_stream_survey.specs.declared.listed.Extent.{Extent}
use Rattle.p21_stream_survey.specs.declared.stage.Stage.{Stage}
use Rattle.p21_stream_survey.specs.declared.stage.Stage.TheVariants.{Reading, Seeking, Waiting}
use Rattle.p21_stream_survey.proofs.survey.Survey.interrupt.Goals as goal

pub returns-in-Reading-clause-ends : goal.returns-in-Reading-clause-ends
returns-in-Reading-clause-ends c =
    let old = c.args.self.now in
    let new = c.end_unread.new.self in
    let is = sym c.replace.ensures.value ∙ c.in-Reading.is in
    IfOk-weaker c.end_unread.result (λ (extent : Extent). Interrupts (record old { stage = c.replace.new.dest }) Reading extent new)
    (λ (extent : Extent). Interrupts old old.stage extent new)
    (λ extent ends. interrupts-restaged old new c.replace.new.dest Reading extent ends is)
    c.end_unread.ensures.ends

pub returns-in-Reading-clause-lists : goal.returns-in-Reading-clause-lists
returns-in-Reading-clause-lists c =
    let old = c.args.self.now in
    let listing = c.end_unread.new.self.listing in
    let is = sym c.replace.ensures.value ∙ c.in-Reading.is in
    IfOk-weaker c.end_unread.result (λ (extent : Extent). ListsRead old.listing.list.items extent listing.list.items)
    (λ (extent : Extent). ListsInterrupted old old.stage extent listing)
    (λ extent reads. subst (λ (g : Stage). ListsInterrupted old g extent listing) (sym is) reads) c.end_unread.ensures.reads

pub returns-in-Waiting-clause-ends : goal.returns-in-Waiting-clause-ends
returns-in-Waiting-clause-ends c =
    let old = c.args.self.now in
    let new = c.end_unread_behind.new.self in
    let unlisted = c.in-Waiting.unlisted in
    let is = sym c.replace.ensures.value ∙ c.in-Waiting.is in
    IfOk-weaker c.end_unread_behind.result
    (λ (extent : Extent). Interrupts (record old { stage = c.replace.new.dest }) (Waiting unlisted) extent new)
    (λ (extent : Extent). Interrupts old old.stage extent new)
    (λ extent ends. interrupts-restaged old new c.replace.new.dest (Waiting unlisted) extent ends is) c.end_unread_behind.ensures.ends

pub returns-in-Waiting-clause-lists : goal.returns-in-Waiting-clause-lists
returns-in-Waiting-clause-lists c =
    let old = c.args.self.now in
    let listing = c.end_unread_behind.new.self.listing in
    let is = sym c.replace.ensures.value ∙ c.in-Waiting.is in
    IfOk-weaker c.end_unread_behind.result (λ (extent : Extent). ListsRead old.listing.list.items extent listing.list.items)
    (λ (extent : Extent). ListsInterrupted old old.stage extent listing)
    (λ extent reads. subst (λ (g : Stage). ListsInterrupted old g extent listing) (sym is) reads) c.end_unread_behind.ensures.reads

pub returns-in-Ok-clause-ends : goal.returns-in-Ok-clause-ends
returns-in-Ok-clause-ends c =
    let old = c.args.self.now in
    let other = record old { stage = c.replace.new.dest } in
    let new = record other { listing = c.interrupt_sought.new.listing } in
    let is = sym c.replace.ensures.value ∙ c.in-Seeking.is in
    interrupts-restaged old new c.replace.new.dest (Seeking c.in-Seeking.sought) c.in-Ok.extent
    (interrupted-ends other new c.in-Seeking.sought c.in-Ok.extent (record { rules = refl; limits = refl; most = refl })
    c.in-Ok.ensures.ends
    c.in-Ok.ensures.extent c.in-Ok.ensures.listed) is

pub returns-in-Ok-clause-lists : goal.returns-in-Ok-clause-lists
returns-in-Ok-clause-lists c =
    let old = c.args.self.now in
    let is = sym c.replace.ensures.value ∙ c.in-Seeking.is in
    subst (λ (g : Stage). ListsInterrupted old g c.in-Ok.extent c.interrupt_sought.new.listing) (sym is) (_, refl, c.in-Ok.ensures.reads)
