use Rattle.std.proofs.Common.{arith}
use Rattle.std.proofs.lemmas.Cmp.{nat_cmp_total}
use Rattle.p21_model_uses.proofs.Grouped.{user-at}
use Rattle.p21_model_uses.proofs.UseOrder.{not-missing}
use Rattle.p21_model_uses.proofs.references.user_number.Goals as goal

pub returns-in-Ok-clause-some : goal.returns-in-Ok-clause-some
returns-in-Ok-clause-some c = user-at c.args.users.now c.in-Ok.at c.args.user c.narrow.result c.narrow.ensures.some c.in-Ok.ensures.bound
    (c.in-Ok.ensures.ok 0)

pub returns-in-Ok-clause-none : goal.returns-in-Ok-clause-none
returns-in-Ok-clause-none c all among once none = let far = c.narrow.ensures.none none in
    omega (arith, far, c.in-Ok.ensures.bound, once.bound)

pub returns-in-Err-clause-none : goal.returns-in-Err-clause-none
returns-in-Err-clause-none c all among once none =
    absurd (not-missing nat_cmp_total c.args.users.now c.args.user _ once.rises ((once.members c.args.user).1 among)
    c.in-Err.ensures.position)
