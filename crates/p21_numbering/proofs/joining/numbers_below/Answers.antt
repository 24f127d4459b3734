use Rattle.std.specs.Prelude.{ℕ, List, ◌++◌, ◌∷◌, []}
use Rattle.std.proofs.Common.{ap, sym, ◌∙◌}
use Rattle.p21_numbering.proofs.Joined.{range-push}
use Rattle.p21_numbering.proofs.joining.numbers_below.Goals as goal

pub loop-k-preserved : goal.loop-k-preserved
loop-k-preserved c = c.in_ok-push.ensures.items ∙ ap (λ (ks : List ℕ). ks ++ c.loop-k.k ∷ []) c.loop-k.invariant
    ∙ sym (range-push c.loop-k.k)
