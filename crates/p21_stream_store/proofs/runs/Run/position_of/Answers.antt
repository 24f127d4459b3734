use Rattle.std.proofs.Common.{◌≡◌, ◌+◌, ◌*◌, List, ℕ, ap, sym, ◌∙◌, arith}
use Rattle.p21_stream_store.proofs.RunLemmas.{not_in_run, run_place, steps_are}
use Rattle.p21_stream_store.specs.Runs.{numbers_by, place_in}
use Rattle.p21_stream_store.proofs.runs.Run.position_of.Goals as goal
use Rattle.p21_stream_store.proofs.runs.Run.position_of.Goals.{then-place-self-via-then-place-self, then-place-self-via-else-place-self+then-place-self-2}

pub returns-then-number-self : goal.returns-then-number-self
returns-then-number-self c =
    sym (ap (λ (l : List ℕ). place_in l c.args.number) (sym c.self.view_is)
    ∙ not_in_run c.self.inside.first c.self.inside.step c.self.inside.count c.args.number
    (λ k h is. omega (arith, is, c.if-number-self.true)))

pub returns-then-place-self : goal.returns-then-place-self
returns-then-place-self c = sym (ap (λ (l : List ℕ). place_in l c.args.number) (sym c.self.view_is)
    ∙ not_in_run c.self.inside.first c.self.inside.step c.self.inside.count c.args.number (λ k h is.
    let place : c.steps_within-place.result ≡ k = c.steps_within-place.ensures
    ∙ steps_are c.self.inside.first c.self.inside.step c.args.number k c.self.invariant.0 is in
    elim c.then-place-self.branch [
      | then-place-self-via-then-place-self w ↦ omega (arith, place, h, w.if-place-self.true)
      | then-place-self-via-else-place-self+then-place-self-2 w ↦
          (let steps = ap (λ (n : ℕ). n * c.self.inside.step) place in w.if-place-self-2.true (omega (arith, steps, is)))
    ]))

pub returns : goal.returns
returns c =
    let is : c.args.number ≡ c.self.inside.first + c.steps_within-place.result * c.self.inside.step =
    omega (arith, c.if-number-self.false, c.if-place-self-2.false) in
    sym (ap (λ (l : List ℕ). place_in l c.args.number) (sym c.self.view_is)
    ∙ ap (λ (n : ℕ). place_in (numbers_by c.self.inside.first c.self.inside.step c.self.inside.count) n) is
    ∙ run_place c.self.inside.first c.self.inside.step c.self.inside.count c.steps_within-place.result c.self.invariant.0
    (omega (arith, c.if-place-self.false)))
