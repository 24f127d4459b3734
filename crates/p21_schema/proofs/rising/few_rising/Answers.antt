use Rattle.std.specs.Prelude.{◌≤◌, List, ℕ, length}
use Rattle.std.proofs.Common.{arith, ap, subst}
use Rattle.p21_spec_schema.specs.Order.{order}
use Rattle.p21_express_graph.specs.Orders.{numbers}
use Rattle.p21_express_graph.specs.Rising.{HaveSame}
use Rattle.p21_express_graph.proofs.Gatherings.{mapped-length}
use Rattle.p21_schema.proofs.rising.few_rising.Goals as goal

pub returns : goal.returns
returns c s e ranks is =
    let P : List ℕ → Type 0 = λ entities. HaveSame entities (numbers c.in_ok-rising.rising.items) in
    let few : length (order s e) ≤ 64 = omega (
      arith,
      c.if-listed-gt-MOST_OF_A_RISING_SET.false,
      mapped-length (λ x. x.0) c.args.listed.now,
      ap length is,
    ) in
    (few, (subst P is c.in_ok-rising.ensures.same, c.in_ok-rising.ensures.rising s ranks))
