use Rattle.std.specs.Prelude.{◌≡◌, true, false, Contains}
use Rattle.std.proofs.Common.{sym, ◌∙◌}
use Rattle.p21_spec_schema.specs.Order.{order}
use Rattle.p21_express_graph.specs.Meaning.{place}
use Rattle.p21_express_graph.specs.Lookups.{DerivesPlace}
use Rattle.p21_express_graph.proofs.OrderTables.{order-tells}
use Rattle.p21_schema.proofs.OnlyRedeclarers.{only-decides, only-derives, only-redeclares, outside-derives, outside-redeclares}
use Rattle.p21_schema.proofs.schema.Schema.decision_of_one.Goals as goal

pub returns-then-not-descends : goal.returns-then-not-descends
returns-then-not-descends c =
    let s = c.args.self.now in
    let own = order s c.args.entity.0 in
    let out : Contains own c.args.only.0 → ⊥ = λ among.
    (let clash : true ≡ false = sym (c.descends.ensures.1
    ((order-tells s c.holds_together.ensures c.args.entity.0 c.args.only.0).0 among)) ∙ c.if-not-descends.true in cc) in (
      outside-derives s (place c.args.place) c.args.only.0 c.requires.only own out,
      outside-redeclares s (place c.args.place) c.args.only.0
          c.requires.only own out,
    )

pub returns-then-derives : goal.returns-then-derives
returns-then-derives c =
    let s = c.args.self.now in
    let among = (order-tells s c.holds_together.ensures c.args.entity.0 c.args.only.0).1 (c.descends.ensures.0 c.if-not-descends.false) in
    let ((x, at, derives), counts) = c.derives.ensures.0 c.if-derives.true in
    (c.args.only.0, x, among, at, derives)

pub returns-in-Some : goal.returns-in-Some
returns-in-Some c =
    let s = c.args.self.now in
    let p = place c.args.place in
    let own = order s c.args.entity.0 in
    let among = (order-tells s c.holds_together.ensures c.args.entity.0 c.args.only.0).1 (c.descends.ensures.0 c.if-not-descends.false) in
    let stored : DerivesPlace s c.args.only.0 p → ⊥ = λ derives.
    (let clash : true ≡ false = sym (c.derives.ensures.1 (derives, tt)) ∙ c.if-derives.false in cc) in
    let (r, is, same) = c.in-Some.ensures in (
      only-derives s p c.args.only.0 c.requires.only own stored,
      (r, is, only-decides s p c.args.only.0 c.requires.only own among c.in-Some.at r is same),
    )

pub returns-in-None : goal.returns-in-None
returns-in-None c =
    let s = c.args.self.now in
    let p = place c.args.place in
    let own = order s c.args.entity.0 in
    let stored : DerivesPlace s c.args.only.0 p → ⊥ = λ derives.
    (let clash : true ≡ false = sym (c.derives.ensures.1 (derives, tt)) ∙ c.if-derives.false in cc) in
    (only-derives s p c.args.only.0 c.requires.only own stored, only-redeclares s p c.args.only.0 c.requires.only own c.in-None.ensures)
