use Rattle.std.specs.Prelude.{◌<◌, ◌∷◌, [], ℕ, List, Contains, length, refl}
use Rattle.std.proofs.Common.{arith, ap, sym, subst, length-append}
use Rattle.p21_spec_schema.proofs.Orders.{order_within-self}
use Rattle.p21_express_graph.specs.Above.{HasAbove}
use Rattle.p21_express_graph.specs.Prefixes.{lists_in}
use Rattle.p21_express_graph.specs.SchemaContents.{entity, schema_of}
use Rattle.p21_express_graph.specs.declared.above.Above.{Above}
use Rattle.p21_express_graph.proofs.FrontsAbove.{above-more}
use Rattle.p21_express_graph.proofs.Closures.{order-listed}
use Rattle.p21_express_graph.proofs.Gatherings.{mapped-length}
use Rattle.p21_express_graph.proofs.above.fronts_above.Goals as goal

pub front_above-front-requires-clause-itself : goal.front_above-front-requires-clause-itself
front_above-front-requires-clause-itself c =
    let s = schema_of c.args.parts.now in
    let e : ℕ = c.loop-number.number in
    let many = mapped-length entity c.args.parts.now.entities.items in
    let below : e < length s.entities = omega (arith, c.loop-number-test.true, c.len-count.ensures, many, c.args.parts.now.entities.ok.0) in
    let P : List ℕ → Type 0 = λ xs. Contains xs e in
    subst P (sym (order-listed s s (lists_in c.args.orders.now) e refl c.requires.orders below)) (order_within-self s (length s.entities) e)

pub loop-number-preserved : goal.loop-number-preserved
loop-number-preserved c =
    let above : Above = record { front = c.front_above-front.result; others = c.new.result } in
    let P : ℕ → Type 0 = λ n. HasAbove c.args.orders.now n above.front above.others.items in
    let Q : List ℕ → Type 0 = λ others. HasAbove c.args.orders.now c.loop-number.number above.front others in (
      omega (arith, ap length c.in_ok-push.ensures.items, length-append c.loop-number.all.items (above ∷ []), c.loop-number.invariant.0),
      above-more c.args.orders.now c.loop-number.all.items c.push.new.self.items above c.in_ok-push.ensures.items c.loop-number.invariant.1 (subst P (sym c.loop-number.invariant.0) (subst Q (sym c.new.ensures.items) c.front_above-front.ensures)),
    )
