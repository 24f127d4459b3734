use Rattle.std.proofs.Common.{ℕ, List, ap, length, subst, sym, ◌≡◌}
use Rattle.p21_stream_store.specs.Runs.{numbers_by}
use Rattle.p21_stream_store.proofs.RunLemmas.{length-run}
use Rattle.p21_stream_store.proofs.runs.Run.rises.Goals as goal

pub returns : goal.returns
returns c =
    let run = numbers_by c.self.inside.first c.self.inside.step c.self.inside.count in
    let is : run ≡ numbers_by c.self.inside.first c.self.inside.step (length run) =
    ap (numbers_by c.self.inside.first c.self.inside.step)
    (sym (length-run c.self.inside.first c.self.inside.step c.self.inside.count)) in (
      c.self.inside.first,
      c.self.inside.step,
      c.self.invariant.0,
      subst
          (λ (l : List ℕ). l ≡ numbers_by c.self.inside.first c.self.inside.step (length l)) c.self.view_is is,
    )
