use Rattle.std.proofs.Common.{List, ℕ, length, ap, sym, ◌∙◌, arith}
use Rattle.std.specs.List.{slice_get}
use Rattle.p21_stream_store.proofs.RunLemmas.{below_last, length-run, run_got}
use Rattle.p21_stream_store.proofs.runs.Run.get.Goals as goal

pub overflow_mul-result : goal.overflow_mul-result
overflow_mul-result c =
    let size = sym (length-run c.self.inside.first c.self.inside.step c.self.inside.count) ∙ ap length c.self.view_is in
    let below = below_last c.self.inside.step c.self.inside.count c.args.place (omega (arith, size, c.requires)) in
    omega (arith, below, c.self.invariant.1)

pub overflow_add-result : goal.overflow_add-result
overflow_add-result c =
    let size = sym (length-run c.self.inside.first c.self.inside.step c.self.inside.count) ∙ ap length c.self.view_is in
    let below = below_last c.self.inside.step c.self.inside.count c.args.place (omega (arith, size, c.requires)) in
    omega (arith, below, c.self.invariant.1)

pub returns : goal.returns
returns c =
    let size = sym (length-run c.self.inside.first c.self.inside.step c.self.inside.count) ∙ ap length c.self.view_is in
    ap (λ (l : List ℕ). slice_get l c.args.place) (sym c.self.view_is)
    ∙ run_got c.self.inside.first c.self.inside.step c.self.inside.count c.args.place (omega (arith, size, c.requires))
