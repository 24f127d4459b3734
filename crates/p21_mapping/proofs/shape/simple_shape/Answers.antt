use Rattle.std.specs.Prelude.{◌≡◌, [], true, false, length, refl}
use Rattle.std.specs.List.{flat_map}
use Rattle.std.proofs.Common.{ap, sym, ◌∙◌}
use Rattle.p21_spec_basics.proofs.Members.{Contains-first}
use Rattle.p21_express_graph.specs.Orders.{numbers}
use Rattle.p21_spec_file.specs.BrokenRule.{unknown_entity}
use Rattle.p21_grammar_tree.specs.View.{part_view}
use Rattle.p21_mapping.proofs.OwnSets.{own-passes, own-refuses}
use Rattle.p21_mapping.proofs.Shapes.{named-within, order-within, simple-miscount, simple-shape, part-length}
use Rattle.p21_mapping.proofs.shape.simple_shape.Goals as goal
use Rattle.p21_spec_schema.specs.Order.{order, own_places}

pub returns-in_default : goal.returns-in_default
returns-in_default c = λ _. unknown_entity (
  part_view c.args.part.now,
  Contains-first (part_view c.args.part.now) [],
  λ e named.
      c.in_default.ensures e named,
)

pub check_own_set-requires : goal.check_own_set-requires
check_own_set-requires c = named-within c.args.schema.now (part_view c.args.part.now).key c.in-Some.entity.0 c.in-Some.ensures

pub order_of-listed-requires : goal.order_of-listed-requires
order_of-listed-requires c = named-within c.args.schema.now (part_view c.args.part.now).key c.in-Some.entity.0 c.in-Some.ensures

pub has_count-requires : goal.has_count-requires
has_count-requires c =
    order-within c.args.schema.now c.holds_together.ensures c.in-Some.entity.0 (numbers c.order_of-listed.result.now)
    c.order_of-listed.ensures
    (named-within c.args.schema.now (part_view c.args.part.now).key c.in-Some.entity.0 c.in-Some.ensures)

pub returns-in-Err : goal.returns-in-Err
returns-in-Err c = own-refuses c.args.schema.now c.in-Some.entity.0 c.holds_together.ensures c.requires.entities_distinct
    (part_view c.args.part.now) c.in-Some.ensures c.in-Err.fault c.in-Err.ensures

pub returns-then-not-has_count : goal.returns-then-not-has_count
returns-then-not-has_count c = λ _. simple-miscount c.args.schema.now (part_view c.args.part.now) c.in-Some.entity.0 c.in-Some.ensures
    (λ count. let t : true ≡ false = sym (c.has_count.ensures.1
    (ap length c.items.ensures ∙ sym (part-length c.args.part.now) ∙ count
    ∙ ap (λ xs. length (flat_map (own_places c.args.schema.now) xs)) (sym c.order_of-listed.ensures))) ∙ c.if-not-has_count.true in cc)

pub own_rising-requires : goal.own_rising-requires
own_rising-requires c = named-within c.args.schema.now (part_view c.args.part.now).key c.in-Some.entity.0 c.in-Some.ensures

pub returns : goal.returns
returns c =
    let s = c.args.schema.now in
    let part = part_view c.args.part.now in
    let e = c.in-Some.entity.0 in
    let entities = numbers c.in_ok-entities.entities in
    let (same, rising) = c.in_ok-entities.ensures.ok in
    let passes = own-passes s e entities same c.in-Ok.ensures in
    let in_order = ap (λ xs. length (flat_map (own_places s) xs)) c.order_of-listed.ensures in
    let count = part-length c.args.part.now ∙ sym (ap length c.items.ensures) ∙ c.has_count.ensures.0 c.if-not-has_count.false
    ∙ in_order in (
      simple-shape s c.holds_together.ensures c.requires.entities_distinct part e (order s e) entities c.in-Some.ensures refl same rising
          c.in-Ok.ensures.0 passes count,
      (named-within s part.key e c.in-Some.ensures, same),
    )
