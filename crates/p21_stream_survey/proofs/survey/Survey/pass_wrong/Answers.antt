use Rattle.std.proofs.Common.{◌≡◌, ℕ, List, refl, subst, ◌∙◌, append-nil}
use Rattle.p21_stream_log.specs.Broken.{BeginsIn}
use Rattle.p21_stream_statements.specs.declared.refusal.At.TheVariants.{Instance}
use Rattle.p21_stream_survey.proofs.Refusals.{wrong-by, wrong-ends_where}
use Rattle.p21_stream_survey.specs.Walking.{GoesByPassage}
use Rattle.p21_stream_survey.specs.Wrong.{PassesWrong}
use Rattle.p21_stream_survey.proofs.survey.Survey.pass_wrong.Goals as goal

pub returns-then-is_last : goal.returns-then-is_last
returns-then-is_last c =
    let are : c.in-Ok.bytes.items ≡ c.args.self.now.log.buffer = c.in-Ok.ensures ∙ append-nil c.args.self.now.log.buffer in
    wrong-ends_where (λ again. again.items) c.log_laws.ensures.wrong c.log_laws.ensures.instance c.args.self.now c.end_with_wrong.new.self
    c.args.name c.args.fault c.deref.result.now c.begins_in.result c.end_with_wrong.result (c.deref.ensures.value ∙ are)
    c.end_with_wrong.ensures.again c.begins_in.ensures.begins
    (c.if-is_last.ensures.yes refl) c.end_with_wrong.ensures.ends

pub returns-in-Ok-go_by : goal.returns-in-Ok-go_by
returns-in-Ok-go_by c =
    let old = c.args.self.now in
    let are : c.in-Ok.bytes.items ≡ old.log.buffer = c.in-Ok.ensures ∙ append-nil old.log.buffer in
    let begins : ℕ = c.begins_in.result in
    wrong-by c.log_laws.ensures.too_far c.log_laws.ensures.instance old c.pass_wrong.new.log c.pass_wrong.new.listing c.go_by.new.self
    c.args.name c.args.fault c.in-Ok.bytes.items begins c.in-Ok-pass_wrong.passage c.in-Ok-go_by.next are
    (subst (λ (l : List ℕ). BeginsIn old.log l begins) c.deref.ensures.value c.begins_in.ensures.begins) (c.if-is_last.ensures.no refl)
    (subst (λ (l : List ℕ). PassesWrong old.log old.listing c.args.name c.args.fault begins l c.in-Ok-pass_wrong.passage
    c.pass_wrong.new.log c.pass_wrong.new.listing) c.deref-3.ensures.value c.in-Ok-pass_wrong.ensures.passes)
    c.in-Ok-pass_wrong.ensures.begins
    (subst (λ (l : List ℕ). GoesByPassage (record old { log = c.pass_wrong.new.log; listing = c.pass_wrong.new.listing })
    (record { fault = c.args.fault; at = Instance c.args.name; begins = begins }) l 0 c.in-Ok-pass_wrong.passage c.in-Ok-go_by.next
    c.go_by.new.self) c.deref-4.ensures.value c.in-Ok-go_by.ensures.goes)
