use Rattle.std.specs.Prelude.{◌≡◌, List, map, length}
use Rattle.std.proofs.Common.{arith, ap, sym, ◌∙◌, subst, get_or, reverse}
use Rattle.std.proofs.lemmas.List.{reverse-reverse}
use Rattle.std.specs.Vec.Iter.{into_iter_items}
use Rattle.std.specs.List.{zip}
use Rattle.p21_spec_basics.proofs.Members.{Each-member}
use Rattle.p21_spec_exchange.specs.Parameter.{Param, listed}
use Rattle.p21_spec_exchange.specs.Record.{complex}
use Rattle.p21_express_graph.proofs.Gatherings.{numbered-at}
use Rattle.p21_express_graph.specs.Orders.{numbers}
use Rattle.p21_spec_file.specs.Meaning.{HasPlaceTypes}
use Rattle.p21_spec_file.specs.RecordPlaces.{HasPart}
use Rattle.p21_grammar_tree.specs.View.{part_view, part_views}
use Rattle.p21_mapping.proofs.Here.{param_views-length, part-params}
use Rattle.p21_mapping.proofs.Taking.{parts-begin, parts-more, parts-room, parts-next, parts-end, row-whole}
use Rattle.p21_mapping.specs.Outcome.{needs_view}
use Rattle.p21_mapping.specs.Rows.{BreaksAmong, TakesRow, param_views}
use Rattle.p21_mapping.proofs.Shapes.{named-within, own-count, views-length}
use Rattle.p21_grammar_tree.specs.Fault.{fault_number}
use Rattle.p21_mapping_values.specs.TypedView.{rows_view}
use Rattle.p21_mapping_values.specs.View.{list_of, view}
use Rattle.p21_spec_schema.specs.Order.{own_places}
use Rattle.p21_mapping.proofs.fitted.complex_rows.Goals as goal

pub loop-owner-init : goal.loop-owner-init
loop-owner-init c = rw (c.in_ok-rows.ensures.items, c.into_iter-left.ensures.rest)
    (parts-begin c.args.set.now.schema.now c.args.set.now.entities c.args.listed.now (part_views c.args.parts.items)
    (needs_view c.args.needs.now.items))

pub unreachable-requires : goal.unreachable-requires
unreachable-requires c =
    parts-room c.args.set.now.schema.now c.args.set.now.entities c.args.listed.now (part_views c.args.parts.items) c.requires.named
    c.loop-owner.owner-index (part_views (into_iter_items c.loop-owner.left)) (rows_view c.loop-owner.rows.items)
    (needs_view c.args.needs.now.items) (needs_view c.loop-owner.needs.items) c.loop-owner-test.true c.loop-owner.invariant
    (views-length (into_iter_items c.loop-owner.left) ∙ sym c.loop-owner.left.rest.ok.0 ∙ c.in_default.ensures.cases.0)

pub fit_row-requires-clause-owner : goal.fit_row-requires-clause-owner
fit_row-requires-clause-owner c =
    let has : HasPart c.args.set.now.schema.now (complex (part_views c.args.parts.items)) (part_view c.in-Some.part)
    (get_or c.args.listed.now c.loop-owner.owner-index record { 0 = 0 }).0 =
    parts-next c.args.set.now.schema.now c.args.set.now.entities c.args.listed.now (part_views c.args.parts.items) c.requires.named
    c.loop-owner.owner-index record { 0 = 0 } (part_views (into_iter_items c.loop-owner.left))
    (part_views (into_iter_items c.next.new.self)) (part_view c.in-Some.part) (rows_view c.loop-owner.rows.items)
    (needs_view c.args.needs.now.items) (needs_view c.loop-owner.needs.items) c.loop-owner-test.true (ap part_views c.in-Some.ensures.items)
    c.loop-owner.invariant in
    named-within c.args.set.now.schema.now (part_view c.in-Some.part).key _ has.1

pub fit_row-requires-clause-decided : goal.fit_row-requires-clause-decided
fit_row-requires-clause-decided c = Each-member (HasPlaceTypes c.args.set.now.schema.now c.args.set.now.entities)
    (numbers c.args.listed.now) (get_or c.args.listed.now c.loop-owner.owner-index record { 0 = 0 }).0 c.requires.decided
    (numbered-at (λ e. e.0) c.args.listed.now c.loop-owner.owner-index record { 0 = 0 } c.loop-owner-test.true)

pub fit_row-requires-clause-enough : goal.fit_row-requires-clause-enough
fit_row-requires-clause-enough c =
    let has : HasPart c.args.set.now.schema.now (complex (part_views c.args.parts.items)) (part_view c.in-Some.part)
    (get_or c.args.listed.now c.loop-owner.owner-index record { 0 = 0 }).0 =
    parts-next c.args.set.now.schema.now c.args.set.now.entities c.args.listed.now (part_views c.args.parts.items) c.requires.named
    c.loop-owner.owner-index record { 0 = 0 } (part_views (into_iter_items c.loop-owner.left))
    (part_views (into_iter_items c.next.new.self)) (part_view c.in-Some.part) (rows_view c.loop-owner.rows.items)
    (needs_view c.args.needs.now.items) (needs_view c.loop-owner.needs.items) c.loop-owner-test.true (ap part_views c.in-Some.ensures.items)
    c.loop-owner.invariant in
    let items_are = ap reverse c.reverse.ensures.items ∙ reverse-reverse _ ∙ c.into_items-params.ensures in
    let are : param_views (reverse c.reverse.new.self.items) ≡ listed (part_view c.in-Some.part).params = ap param_views items_are
    ∙ part-params c.in-Some.part in
    omega (
      arith,
      ap length are,
      param_views-length (reverse c.reverse.new.self.items),
      c.requires.counts (part_view c.in-Some.part)
          (get_or c.args.listed.now c.loop-owner.owner-index record { 0 = 0 }).0 has,
      own-count c.args.set.now.schema.now
          (get_or c.args.listed.now c.loop-owner.owner-index record { 0 = 0 }).0,
    )

pub returns-in-Err : goal.returns-in-Err
returns-in-Err c = λ other.
    let has : HasPart c.args.set.now.schema.now (complex (part_views c.args.parts.items)) (part_view c.in-Some.part)
    (get_or c.args.listed.now c.loop-owner.owner-index record { 0 = 0 }).0 =
    parts-next c.args.set.now.schema.now c.args.set.now.entities c.args.listed.now (part_views c.args.parts.items) c.requires.named
    c.loop-owner.owner-index record { 0 = 0 } (part_views (into_iter_items c.loop-owner.left))
    (part_views (into_iter_items c.next.new.self)) (part_view c.in-Some.part) (rows_view c.loop-owner.rows.items)
    (needs_view c.args.needs.now.items) (needs_view c.loop-owner.needs.items) c.loop-owner-test.true (ap part_views c.in-Some.ensures.items)
    c.loop-owner.invariant in
    let items_are = ap reverse c.reverse.ensures.items ∙ reverse-reverse _ ∙ c.into_items-params.ensures in
    let are : param_views (reverse c.reverse.new.self.items) ≡ listed (part_view c.in-Some.part).params = ap param_views items_are
    ∙ part-params c.in-Some.part in
    let P : List Param → Type 0 = λ ps. BreaksAmong c.args.set.now.schema.now c.args.set.now.entities
    (zip (own_places c.args.set.now.schema.now (get_or c.args.listed.now c.loop-owner.owner-index record { 0 = 0 }).0) ps)
    (fault_number c.in-Err.fault) in (
      part_view c.in-Some.part,
      (get_or c.args.listed.now c.loop-owner.owner-index record { 0 = 0 }).0,
      has,
      subst P are
          (c.in-Err.ensures other),
    )

pub loop-owner-preserved : goal.loop-owner-preserved
loop-owner-preserved c =
    let has : HasPart c.args.set.now.schema.now (complex (part_views c.args.parts.items)) (part_view c.in-Some.part)
    (get_or c.args.listed.now c.loop-owner.owner-index record { 0 = 0 }).0 =
    parts-next c.args.set.now.schema.now c.args.set.now.entities c.args.listed.now (part_views c.args.parts.items) c.requires.named
    c.loop-owner.owner-index record { 0 = 0 } (part_views (into_iter_items c.loop-owner.left))
    (part_views (into_iter_items c.next.new.self)) (part_view c.in-Some.part) (rows_view c.loop-owner.rows.items)
    (needs_view c.args.needs.now.items) (needs_view c.loop-owner.needs.items) c.loop-owner-test.true (ap part_views c.in-Some.ensures.items)
    c.loop-owner.invariant in
    let items_are = ap reverse c.reverse.ensures.items ∙ reverse-reverse _ ∙ c.into_items-params.ensures in
    let are : param_views (reverse c.reverse.new.self.items) ≡ listed (part_view c.in-Some.part).params = ap param_views items_are
    ∙ part-params c.in-Some.part in
    let P : List Param → Type 0 = λ ps. TakesRow c.args.set.now.schema.now c.args.set.now.entities
    (get_or c.args.listed.now c.loop-owner.owner-index record { 0 = 0 }).0 ps (param_views (reverse c.fit_row.new.params.items))
    (map view (list_of c.in-Ok.row)) (needs_view c.loop-owner.needs.items) (needs_view c.fit_row.new.needs.items) in
    let one = subst P are c.in-Ok.ensures in
    parts-more c.args.set.now.schema.now c.args.set.now.entities c.args.listed.now c.loop-owner.owner-index record { 0 = 0 }
    (part_views c.args.parts.items) (part_views (into_iter_items c.loop-owner.left)) (part_views (into_iter_items c.next.new.self))
    (part_view c.in-Some.part) (param_views (reverse c.fit_row.new.params.items))
    c.loop-owner.rows.items c.push.new.self.items c.in-Ok.row (needs_view c.args.needs.now.items) (needs_view c.loop-owner.needs.items)
    (needs_view c.fit_row.new.needs.items) c.loop-owner-test.true c.in_ok-push-in-Ok.ensures.items
    (ap part_views c.in-Some.ensures.items)
    (row-whole c.args.set.now.schema.now c.args.set.now.entities c.args.listed.now (part_view c.in-Some.part)
    (get_or c.args.listed.now c.loop-owner.owner-index record { 0 = 0 }).0 (param_views (reverse c.fit_row.new.params.items))
    (map view (list_of c.in-Ok.row)) (needs_view c.loop-owner.needs.items) (needs_view c.fit_row.new.needs.items)
    (c.requires.counts (part_view c.in-Some.part) (get_or c.args.listed.now c.loop-owner.owner-index record { 0 = 0 }).0 has) one)
    c.loop-owner.invariant one

pub returns : goal.returns
returns c =
    parts-end c.args.set.now.schema.now c.args.set.now.entities c.args.listed.now (part_views c.args.parts.items) c.requires.named
    c.loop-owner.owner-index (part_views (into_iter_items c.loop-owner.left)) (rows_view c.loop-owner.rows.items)
    (needs_view c.args.needs.now.items) (needs_view c.loop-owner.needs.items)
    c.loop-owner-test.false c.loop-owner.invariant
