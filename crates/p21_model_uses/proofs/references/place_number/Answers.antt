use Rattle.std.proofs.Common.{arith}
use Rattle.p21_model_uses.proofs.Grouped.{place-at}
use Rattle.p21_model_uses.proofs.UseOrder.{not-missing, pair-order}
use Rattle.p21_model_uses.proofs.references.place_number.Goals as goal

pub returns-in-Ok-clause-some : goal.returns-in-Ok-clause-some
returns-in-Ok-clause-some c = place-at c.args.places.now c.in-Ok.at c.args.place c.narrow.result c.narrow.ensures.some c.in-Ok.ensures.bound
    (c.in-Ok.ensures.ok (0, 0))

pub returns-in-Ok-clause-none : goal.returns-in-Ok-clause-none
returns-in-Ok-clause-none c all among once none = let far = c.narrow.ensures.none none in
    omega (arith, far, c.in-Ok.ensures.bound, once.bound)

pub returns-in-Err-clause-none : goal.returns-in-Err-clause-none
returns-in-Err-clause-none c all among once none =
    absurd (not-missing pair-order.total c.args.places.now c.args.place _ once.rises ((once.members c.args.place).1 among)
    c.in-Err.ensures.position)
