use Rattle.std.proofs.Common.{ℕ, ◌∷◌, ◌∙◌, ap}
use Rattle.std.proofs.lemmas.Bool.{eqb-true}
use Rattle.p21_shorter_instances.proofs.Leaving.{begins-behind}
use Rattle.p21_shorter_instances.proofs.taker.begins_instance.Goals as goal

pub returns-in-Some : goal.returns-in-Some
returns-in-Some c = λ yes.
    let behind = c.in-Some.field-0-1.now in
    begins-behind c.args.piece.now c.behind_separators.result.now behind c.behind_separators.ensures
    (c.in-Some.ensures.cases.0 ∙ ap (λ (byte : ℕ). byte ∷ behind) (eqb-true _ _ yes))
