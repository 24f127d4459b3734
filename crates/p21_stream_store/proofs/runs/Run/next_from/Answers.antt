use Rattle.std.proofs.Common.{◌+◌, ◌*◌, ◌<◌, List, ℕ, ap, sym, ◌∙◌, arith}
use Rattle.std.proofs.Math.Nat.{mul-le-mul_right}
use Rattle.p21_stream_store.proofs.RunLemmas.{below_last, not_in_run, run_place}
use Rattle.p21_stream_store.specs.Runs.{place_in}
use Rattle.p21_stream_store.proofs.runs.Run.next_from.Goals as goal

pub returns-then-place-self-clause-none : goal.returns-then-place-self-clause-none
returns-then-place-self-clause-none c e other from = ap (λ (l : List ℕ). place_in l other) (sym c.self.view_is)
    ∙ not_in_run c.self.inside.first c.self.inside.step c.self.inside.count other (λ k h is.
    let fewest = c.steps_to-place.ensures.fewest k (omega (arith, is, from, c.max-from.ensures)) in
    omega (arith, fewest, c.if-place-self.true, h))

pub returns-clause-found : goal.returns-clause-found
returns-clause-found c =
    let within : c.steps_to-place.result < c.self.inside.count = omega (arith, c.if-place-self.false) in
    let below = below_last c.self.inside.step c.self.inside.count c.steps_to-place.result within in (
      omega (arith, c.max-from.ensures, c.steps_to-place.ensures.reached),
      omega (arith, below, c.self.invariant.1),
      ap (λ (l : List ℕ). place_in l (c.self.inside.first + c.steps_to-place.result * c.self.inside.step)) (sym c.self.view_is)
          ∙ run_place c.self.inside.first c.self.inside.step c.self.inside.count c.steps_to-place.result c.self.invariant.0 within,
    )

pub returns-clause-between : goal.returns-clause-between
returns-clause-between c other from before = ap (λ (l : List ℕ). place_in l other) (sym c.self.view_is)
    ∙ not_in_run c.self.inside.first c.self.inside.step c.self.inside.count other (λ k h is.
    let fewest = c.steps_to-place.ensures.fewest k (omega (arith, is, from, c.max-from.ensures)) in
    let steps = mul-le-mul_right c.self.inside.step fewest in
    omega (arith, is, before, steps))

pub returns-then-least-last-clause-none : goal.returns-then-least-last-clause-none
returns-then-least-last-clause-none c e other from = ap (λ (l : List ℕ). place_in l other) (sym c.self.view_is)
    ∙ not_in_run c.self.inside.first c.self.inside.step c.self.inside.count other (λ k h is.
    let below = below_last c.self.inside.step c.self.inside.count k h in
    let steps = ap (λ (n : ℕ). n * c.self.inside.step) c.saturating_sub-steps.ensures in
    omega (arith, below, steps, is, from, c.if-least-last.true))
