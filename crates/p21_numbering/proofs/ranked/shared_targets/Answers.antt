use Rattle.std.specs.Prelude.{◌++◌, ◌∷◌, [], ℕ, List, filter}
use Rattle.std.proofs.Common.{ap, sym, ◌∙◌}
use Rattle.p21_numbering.specs.declared.uses.PlacedUse.{PlacedUse}
use Rattle.p21_numbering.specs.Standing.{is_shared, standing_of}
use Rattle.p21_numbering.proofs.FirstFound.{shared-next}
use Rattle.p21_numbering.proofs.ranked.shared_targets.Goals as goal

pub loop-k-preserved : goal.loop-k-preserved
loop-k-preserved c =
    let p = is_shared (standing_of c.args.standings.now) in
    c.in_ok-names.ensures
    ∙ ap (λ (u : PlacedUse). c.loop-k.names.items ++ filter p (u.target ∷ [])) (sym c.index-uses-k.is)
    ∙ ap (λ (ns : List ℕ). ns ++ filter p (c.index-uses-k.result.target ∷ [])) c.loop-k.invariant
    ∙ sym (shared-next p c.args.uses.now c.loop-k.k c.index-uses-k.result c.index-uses-k.is c.loop-k-test.true)
