use Rattle.std.specs.Prelude.{ℕ, List}
use Rattle.std.proofs.Common.{arith}
use Rattle.std.proofs.lemmas.List.{length-map}
use Rattle.std.proofs.lemmas.Result.{IfOk-weaker}
use Rattle.p21_numbering.specs.Rows.{lent_rows}
use Rattle.p21_numbering.proofs.Telling.{ranks-within}
use Rattle.p21_pairing.proofs.kinds.ranks_of_lent.Goals as goal
use denote.Ref.{Bor}

pub returns-clause-within : goal.returns-clause-within
returns-clause-within c =
    IfOk-weaker c.ranks_of_rows.result _ _ (λ ranks are k low.
    (let size = length-map c.args.rows.now (λ (r : Bor (List ℕ)). r.now) in
    let below = ranks-within (lent_rows c.args.rows.now) ranks.items are k (omega (arith, low, size)) in
    omega (arith, below, size))) c.ranks_of_rows.ensures
