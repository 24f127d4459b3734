use Rattle.std.proofs.Common.{ℕ, ◌≤◌, subst}
use Rattle.p21_shorter_instances.proofs.KeywordRows.{fronts-masked}
use Rattle.p21_shorter_instances.proofs.keyword.same_front.Goals as goal

pub returns : goal.returns
returns c = λ count before few. fronts-masked c.args.row.now c.args.bytes.now count c.told-row c.requires
    (subst (λ (n : ℕ). count ≤ n) c.trailing_ones.ensures before) few
