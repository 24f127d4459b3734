use Rattle.std.specs.Prelude.{List, [], nat_eq}
use Rattle.std.specs.List.{IsDistinct}
use Rattle.std.proofs.Common.{ap, sym, ◌∙◌, subst}
use Rattle.p21_spec_basics.proofs.Shuffles.{none_twice-distinct}
use Rattle.p21_express_graph.specs.Orders.{numbers}
use Rattle.p21_express_graph.specs.declared.number.EntityId.{EntityId}
use Rattle.p21_spec_file.proofs.OneMeaning.{rising-none_twice}
use Rattle.p21_grammar_tree.specs.View.{record_view}
use Rattle.p21_mapping.proofs.OwnSets.{own-listed}
use Rattle.p21_mapping.proofs.Whole.{checked, refused, rows-count}
use Rattle.p21_mapping.specs.Shape.{listed_in}
use Rattle.p21_mapping.specs.ArrangedRows.{AreArranged, HasRows}
use Rattle.p21_mapping.specs.Outcome.{needs_view}
use Rattle.p21_mapping.proofs.Shapes.{numbers-length}
use Rattle.p21_mapping_values.specs.TypedView.{rows_view}
use Rattle.p21_mapping.proofs.check.check_with_shape.Goals as goal

pub returns-in-Err : goal.returns-in-Err
returns-in-Err c = λ other. refused c.args.schema.now c.requires.formed (record_view c.args.of) c.in-Err.fault c.in-Err.ensures other

pub entities-in_order-requires : goal.entities-in_order-requires
entities-in_order-requires c = own-listed c.args.schema.now c.args.shape.listed (numbers c.args.shape.entities) c.requires.own

pub arranged_rows-requires-clause-listed : goal.arranged_rows-requires-clause-listed
arranged_rows-requires-clause-listed c = rw (c.items-2.ensures, c.entities-in_order.ensures) (λ e among. (c.requires.shape.same e).1 among)

pub arranged_rows-requires-clause-differ : goal.arranged_rows-requires-clause-differ
arranged_rows-requires-clause-differ c =
    let (names, named, rises) = c.requires.shape.rising in
    let P : List EntityId → Type 0 = λ es. IsDistinct nat_eq (numbers es) in
    subst P (sym c.items-2.ensures) (none_twice-distinct (numbers c.args.shape.entities)
    (rising-none_twice c.args.schema.now (numbers c.args.shape.entities) names named rises))

pub arranged_rows-requires-clause-each : goal.arranged_rows-requires-clause-each
arranged_rows-requires-clause-each c =
    rows-count c.args.schema.now (record_view c.args.of) (numbers c.entities-in_order.result.now) c.in_ok-positions.positions
    c.in-Ok.rows.items (needs_view c.new-needs.result.items) (needs_view c.rows_of.new.needs.items) c.in-Ok.ensures
    ∙ numbers-length c.entities-in_order.result.now

pub returns : goal.returns
returns c =
    let s = c.args.schema.now in
    let of = record_view c.args.of in
    let listed = listed_in s c.args.shape.listed in
    let entities = numbers c.args.shape.entities in
    let rows = rows_view c.in-Ok.rows.items in
    let needs = needs_view c.rows_of.new.needs.items in
    let arranged = rows_view c.in_ok-values.values.items in
    let at_listed : HasRows s of listed c.in_ok-positions.positions rows (needs_view c.new-needs.result.items) needs =
    subst (λ ls. HasRows s of ls c.in_ok-positions.positions rows (needs_view c.new-needs.result.items) needs) c.entities-in_order.ensures
    c.in-Ok.ensures in
    let at_set : HasRows s of listed entities rows (needs_view c.new-needs.result.items) needs =
    subst (λ es. HasRows s of listed es rows (needs_view c.new-needs.result.items) needs)
    (c.in_ok-positions.ensures ∙ ap numbers c.items.ensures) at_listed in
    let has : HasRows s of listed entities rows (needs_view []) needs =
    subst (λ xs. HasRows s of listed entities rows (needs_view xs) needs) c.new-needs.ensures.items at_set in
    let arranged_listed : AreArranged listed rows (numbers c.items-2.result.now) arranged =
    subst (λ ls. AreArranged ls rows (numbers c.items-2.result.now) arranged) c.entities-in_order.ensures c.in_ok-values.ensures in
    let are : AreArranged listed rows entities arranged =
    subst (λ xs. AreArranged listed rows (numbers xs) arranged) c.items-2.ensures arranged_listed in
    rw c.from_vec.ensures (checked s c.requires.formed c.requires.holds of listed entities c.requires.shape rows needs has arranged are)
