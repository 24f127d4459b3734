use Rattle.std.proofs.Common.{arith}
use Rattle.std.proofs.lemmas.Bool.Decides.{nat_tests}
use Rattle.std.proofs.lemmas.Grind.{common_steps}
use Rattle.p21_values.proofs.StoredWholes.{stored_spelling}
use Rattle.p21_values.proofs.whole.append.Goals as goal
use Rattle.p21_values.proofs.whole.append.Goals.{then-whole+in_ok-push-2, else-whole}

pub returns-clause-ok : goal.returns-clause-ok
returns-clause-ok c =
    let text = stored_spelling _ _ c.whole.invariant (grind (arith, nat_tests)) in
    rw (← c.whole.view_is, text) (elim c.if-whole.branch [ then-whole+in_ok-push-2 w ↦ rw w.if-whole.true (grind (arith, common_steps)) | else-whole w ↦ rw w.if-whole.false (grind (arith, common_steps)) ])
