use Rattle.std.proofs.Common.{◌++◌, ◌∷◌, [], List, ℕ, ap, ◌∙◌}
use Rattle.p21_stream_store.proofs.RunLemmas.{next_is, run_more}
use Rattle.p21_stream_store.specs.Runs.{numbers_by}
use Rattle.p21_stream_store.proofs.runs.Run.push.Goals as goal

pub returns : goal.returns
returns c =
    run_more c.self.inside.first c.self.inside.step c.self.inside.count
    ∙ ap (λ (n : ℕ). numbers_by c.self.inside.first c.self.inside.step c.self.inside.count ++ n ∷ [])
    (next_is c.self.inside.first c.self.inside.step c.self.inside.count c.args.number c.if-self-eq0.false c.if-number-last.false
    c.if-number-last-2.false)
    ∙ ap (λ (l : List ℕ). l ++ c.args.number ∷ []) c.self.view_is
