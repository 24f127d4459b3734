use Rattle.std.proofs.Common.{◌≡◌, ◌++◌, ◌+◌, ℕ, List, ap, get_or, take, sym, subst, ◌∙◌}
use Rattle.std.proofs.lemmas.List.{take_all}
use Rattle.p21_stream_resume.proofs.Along.{along-all, along-ends, along-goes}
use Rattle.p21_stream_resume.specs.Seeking.{Held, Seeks, SeeksAlong}
use Rattle.p21_stream_resume.specs.Step.{class_of, step}
use Rattle.p21_stream_resume.specs.declared.mode.Mode.{Mode}
use Rattle.p21_stream_resume.specs.declared.mode.Step.TheVariants.{Goes, Ends}
use Rattle.p21_stream_resume.proofs.seeker.Seeker.seek.Goals as goal

pub returns-in-Ok-clause-gives : goal.returns-in-Ok-clause-gives
returns-in-Ok-clause-gives c = λ before passed seeks.
    let byte : ℕ = get_or c.args.piece.now c.loop-place.place 0 in
    let mode_is : c.self.inside.mode ≡ c.loop-place.self.mode = ap (λ (h : Held). h.mode) c.self.view_is in
    let steps : step c.self.inside.mode (class_of byte) byte ≡ Ends c.in-Ends.signpost = sym c.step.ensures ∙ c.in-Ends.is in
    along-ends c.args.self.now c.loop-place.self c.push.new.self c.in-Ends.signpost c.args.piece.now c.loop-place.place
    c.loop-place-test.true c.loop-place.invariant (subst (λ (m : Mode). step m (class_of byte) byte ≡ Ends c.in-Ends.signpost) mode_is steps)
    (ap (λ (h : Held). h.begun) c.in-Ok.ensures) before passed seeks

pub loop-place-preserved : goal.loop-place-preserved
loop-place-preserved c = λ before passed seeks.
    let byte : ℕ = get_or c.args.piece.now c.loop-place.place 0 in
    let mode_is : c.self.inside.mode ≡ c.loop-place.self.mode = ap (λ (h : Held). h.mode) c.self.view_is in
    let steps : step c.self.inside.mode (class_of byte) byte ≡ Goes c.in-Goes.mode = sym c.step.ensures ∙ c.in-Goes.is in
    subst (λ (h : Held). Seeks before (passed ++ take (c.loop-place.place + 1) c.args.piece.now) h) (sym c.in_default.ensures)
    (along-goes c.args.self.now c.loop-place.self c.in-Goes.mode c.args.piece.now c.loop-place.place
    c.loop-place-test.true c.loop-place.invariant (subst (λ (m : Mode). step m (class_of byte) byte ≡ Goes c.in-Goes.mode) mode_is steps) before passed seeks)

pub returns-clause-gives : goal.returns-clause-gives
returns-clause-gives c = λ before passed seeks.
    let all : take c.loop-place.place c.args.piece.now ≡ c.args.piece.now = take_all c.loop-place.place c.args.piece.now c.loop-place-test.false in
    let along : SeeksAlong c.args.self.now c.args.piece.now c.loop-place.self =
    subst (λ (bs : List ℕ). SeeksAlong c.args.self.now bs c.loop-place.self) all c.loop-place.invariant in
    along-all c.args.self.now c.loop-place.self c.args.piece.now along before passed seeks
