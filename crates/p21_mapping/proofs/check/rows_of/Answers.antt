use Rattle.std.specs.Prelude.{◌<◌, List, [], length, MatchResult}
use Rattle.std.proofs.Common.{arith, ap, sym, ◌∙◌, subst}
use Rattle.p21_spec_exchange.specs.Record.{complex}
use Rattle.p21_express_graph.specs.Orders.{numbers}
use Rattle.p21_express_graph.proofs.Lookups.{rising-known}
use Rattle.p21_grammar_tree.specs.declared.record.Part.{Part}
use Rattle.p21_grammar_tree.specs.declared.record.Record.{Record}
use Rattle.p21_grammar_tree.specs.View.{part_view, part_views, record_view}
use Rattle.p21_mapping.proofs.Here.{part-params}
use Rattle.p21_mapping.proofs.Refused.{listed-within, listed-decided, simple-long, simple-rows, complex-rows}
use Rattle.p21_mapping.specs.ArrangedRows.{HasRows}
use Rattle.p21_mapping.specs.Outcome.{needs_view}
use Rattle.p21_mapping.specs.Rows.{RefusesPart, TakesParts, param_views}
use Rattle.p21_mapping.proofs.Shapes.{part-length, views-length}
use Rattle.p21_mapping.specs.Shape.{HasCounts, HasShape, Refuses}
use Rattle.p21_mapping_values.specs.TypedView.{rows_view}
use Rattle.p21_mapping.proofs.check.rows_of.Goals as goal

pub simple_rows-requires-clause-entities : goal.simple_rows-requires-clause-entities
simple_rows-requires-clause-entities c = rising-known c.args.set.now.schema.now c.args.set.now.entities c.requires.shape.rising

pub simple_rows-requires-clause-listed : goal.simple_rows-requires-clause-listed
simple_rows-requires-clause-listed c = listed-within c.args.set.now.schema.now (record_view c.args.of) (numbers c.args.listed.now)
    c.args.set.now.entities c.requires.shape

pub simple_rows-requires-clause-decided : goal.simple_rows-requires-clause-decided
simple_rows-requires-clause-decided c = listed-decided c.args.set.now.schema.now (record_view c.args.of) (numbers c.args.listed.now)
    c.args.set.now.entities c.requires.shape

pub simple_rows-requires-clause-each : goal.simple_rows-requires-clause-each
simple_rows-requires-clause-each c =
    let P : Record → Type 0 = λ r. HasShape c.args.set.now.schema.now (record_view r) (numbers c.args.listed.now) c.args.set.now.entities in
    ap length c.into_items-params.ensures ∙ sym (part-length c.in-Simple.part)
    ∙ simple-long c.args.set.now.schema.now (part_view c.in-Simple.part) (numbers c.args.listed.now) c.args.set.now.entities
    (subst P c.in-Simple.is c.requires.shape)

pub complex_rows-requires-clause-entities : goal.complex_rows-requires-clause-entities
complex_rows-requires-clause-entities c = rising-known c.args.set.now.schema.now c.args.set.now.entities c.requires.shape.rising

pub complex_rows-requires-clause-decided : goal.complex_rows-requires-clause-decided
complex_rows-requires-clause-decided c = listed-decided c.args.set.now.schema.now (record_view c.args.of) (numbers c.args.listed.now)
    c.args.set.now.entities c.requires.shape

pub complex_rows-requires-clause-counts : goal.complex_rows-requires-clause-counts
complex_rows-requires-clause-counts c =
    let P : Record → Type 0 = λ r. HasShape c.args.set.now.schema.now (record_view r) (numbers c.args.listed.now) c.args.set.now.entities in
    let R : List Part → Type 0 = λ ps. HasCounts c.args.set.now.schema.now (complex (part_views ps)) in
    subst R (sym c.into_items.ensures.are) (subst P c.in-Complex.is c.requires.shape).counts

pub returns-in-Simple : goal.returns-in-Simple
returns-in-Simple c =
    let P : Record → Type 0 = λ r. HasShape c.args.set.now.schema.now (record_view r) (numbers c.args.listed.now) c.args.set.now.entities in
    let Q : Record → Type 0 = λ r. MatchResult c.simple_rows.result
    (λ rows. HasRows c.args.set.now.schema.now (record_view r) (numbers c.args.listed.now) c.args.set.now.entities
    (rows_view rows.items) (needs_view c.args.needs.now.items) (needs_view c.simple_rows.new.needs.items))
    (Refuses c.args.set.now.schema.now (record_view r)) in
    subst Q (sym c.in-Simple.is) (simple-rows c.args.set.now.schema.now (part_view c.in-Simple.part) (numbers c.args.listed.now)
    c.args.set.now.entities (param_views c.into_items-params.result.items) (needs_view c.args.needs.now.items)
    (needs_view c.simple_rows.new.needs.items) c.simple_rows.result
    (subst P c.in-Simple.is c.requires.shape) (ap param_views c.into_items-params.ensures ∙ part-params c.in-Simple.part)
    c.simple_rows.ensures)

pub returns-in-Complex : goal.returns-in-Complex
returns-in-Complex c =
    let P : Record → Type 0 = λ r. HasShape c.args.set.now.schema.now (record_view r) (numbers c.args.listed.now) c.args.set.now.entities in
    let Q : Record → Type 0 = λ r. MatchResult c.complex_rows.result
    (λ rows. HasRows c.args.set.now.schema.now (record_view r) (numbers c.args.listed.now) c.args.set.now.entities
    (rows_view rows.items) (needs_view c.args.needs.now.items) (needs_view c.complex_rows.new.needs.items))
    (Refuses c.args.set.now.schema.now (record_view r)) in
    let R : List Part → Type 0 = λ ps. MatchResult c.complex_rows.result
    (λ rows. TakesParts c.args.set.now.schema.now c.args.set.now.entities (numbers c.args.listed.now) (part_views ps) []
    (rows_view rows.items) (needs_view c.args.needs.now.items) (needs_view c.complex_rows.new.needs.items))
    (RefusesPart c.args.set.now.schema.now c.args.set.now.entities (part_views ps)) in
    let some : 0 < length (part_views c.in-Complex.parts) =
    omega (arith, c.into_items.ensures.some, views-length c.in-Complex.parts, ap length c.into_items.ensures.are) in
    subst Q (sym c.in-Complex.is) (complex-rows c.args.set.now.schema.now (part_views c.in-Complex.parts) (numbers c.args.listed.now)
    c.args.set.now.entities (needs_view c.args.needs.now.items) (needs_view c.complex_rows.new.needs.items) c.complex_rows.result
    (subst P c.in-Complex.is c.requires.shape) some (subst R c.into_items.ensures.are c.complex_rows.ensures))
