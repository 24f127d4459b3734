use Rattle.std.proofs.Common.{List, ℕ, drop, refl, subst}
use Rattle.p21_spec_basics.proofs.Members.{rest_is}
use Rattle.p21_shorter_instances.proofs.RealElements.{marked-real, real-at}
use Rattle.p21_shorter_instances.specs.Reals.{TakesMark}
use Rattle.p21_shorter_instances.proofs.reals.append_other_next.Goals as goal

pub returns-clause-some : goal.returns-clause-some
returns-clause-some c =
    let front = c.behind_separators-front.result.now in
    let count = c.in_ok-count.count in
    let one = c.append_single.new.draft in
    let both = c.append_mark.new.draft in
    let rest = c.in_ok-behind.behind.now in
    marked-real c.args.bytes.now front count rest c.args.draft.now one both c.behind_separators-front.ensures
    (real-at front (drop count front) count c.args.draft.now one refl c.in_ok-count.ensures.some)
    (subst (λ (l : List ℕ). TakesMark l rest one both) (rest_is front count) c.in_ok-behind.ensures.some)
