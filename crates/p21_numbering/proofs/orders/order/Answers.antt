use Rattle.std.specs.Prelude.{Err}
use Rattle.std.proofs.Common.{sym, subst}
use Rattle.p21_numbering.specs.declared.orders.Unordered.{Unordered}
use Rattle.p21_numbering.specs.Ordering.{Orders}
use Rattle.p21_numbering.specs.Ranked.{held_instances}
use Rattle.p21_numbering.proofs.Answered.{loose-alike}
use Rattle.p21_numbering.proofs.orders.order.Goals as goal

pub returns-in-Some : goal.returns-in-Some
returns-in-Some c s formed bytes m reads ranking are =
    let (k, low, is) = c.in-Some.ensures in
    let P : Unordered → Type 0 = λ fault. Orders ranking m (Err fault) in
    subst P (sym c.alike.ensures) (loose-alike s formed bytes m reads ranking (held_instances c.args.instances.now) are k low
    c.in-Some.found is c.other_of.result c.other_of.ensures)
