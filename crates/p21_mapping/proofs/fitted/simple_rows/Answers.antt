use Rattle.std.proofs.Common.{arith, ◌∙◌, reverse}
use Rattle.std.proofs.lemmas.List.{reverse-reverse}
use Rattle.p21_spec_basics.proofs.Members.{Each-member}
use Rattle.p21_express_graph.proofs.Gatherings.{numbered-at}
use Rattle.p21_express_graph.specs.Orders.{numbers}
use Rattle.p21_spec_file.specs.Meaning.{HasPlaceTypes}
use Rattle.p21_mapping.proofs.Here.{param_views-length}
use Rattle.p21_mapping.proofs.Taking.{rows-begin, rows-more, rows-enough, rows-end, rows-break}
use Rattle.p21_mapping.specs.Outcome.{needs_view}
use Rattle.p21_mapping.specs.Rows.{param_views}
use Rattle.p21_grammar_tree.specs.Fault.{fault_number}
use Rattle.p21_mapping_values.specs.TypedView.{rows_view}
use Rattle.p21_mapping.proofs.fitted.simple_rows.Goals as goal

pub loop-owner-init : goal.loop-owner-init
loop-owner-init c = rw (c.in_ok-rows.ensures.items, c.reverse.ensures.items, reverse-reverse c.args.params.items)
    (rows-begin c.args.set.now.schema.now c.args.set.now.entities c.args.listed.now (param_views c.args.params.items)
    (needs_view c.args.needs.now.items))

pub fit_row-requires-clause-owner : goal.fit_row-requires-clause-owner
fit_row-requires-clause-owner c = c.requires.listed _
    (numbered-at (λ e. e.0) c.args.listed.now c.loop-owner.owner-index record { 0 = 0 } c.loop-owner-test.true)

pub fit_row-requires-clause-decided : goal.fit_row-requires-clause-decided
fit_row-requires-clause-decided c = Each-member (HasPlaceTypes c.args.set.now.schema.now c.args.set.now.entities)
    (numbers c.args.listed.now) _ c.requires.decided (numbered-at (λ e. e.0) c.args.listed.now c.loop-owner.owner-index record { 0 = 0 }
    c.loop-owner-test.true)

pub fit_row-requires-clause-enough : goal.fit_row-requires-clause-enough
fit_row-requires-clause-enough c =
    let room = rows-enough c.args.set.now.schema.now c.args.set.now.entities c.args.listed.now c.loop-owner.owner-index record { 0 = 0 }
    (param_views c.args.params.items) (param_views (reverse c.loop-owner.left.items)) (rows_view c.loop-owner.rows.items)
    (needs_view c.args.needs.now.items) (needs_view c.loop-owner.needs.items)
    c.loop-owner-test.true (param_views-length c.args.params.items ∙ c.requires.each) c.loop-owner.invariant in
    omega (arith, room, param_views-length (reverse c.loop-owner.left.items))

pub returns-in-Err : goal.returns-in-Err
returns-in-Err c = λ other.
    rows-break c.args.set.now.schema.now c.args.set.now.entities c.args.listed.now c.loop-owner.owner-index record { 0 = 0 }
    (param_views c.args.params.items) (param_views (reverse c.loop-owner.left.items)) (rows_view c.loop-owner.rows.items)
    (needs_view c.args.needs.now.items) (needs_view c.loop-owner.needs.items)
    (fault_number c.in-Err.fault) c.loop-owner-test.true c.loop-owner.invariant (c.in-Err.ensures other)

pub loop-owner-preserved : goal.loop-owner-preserved
loop-owner-preserved c =
    rows-more c.args.set.now.schema.now c.args.set.now.entities c.args.listed.now c.loop-owner.owner-index record { 0 = 0 }
    (param_views c.args.params.items) (param_views (reverse c.loop-owner.left.items)) (param_views (reverse c.fit_row.new.params.items))
    c.loop-owner.rows.items c.push.new.self.items c.in-Ok.row
    (needs_view c.args.needs.now.items) (needs_view c.loop-owner.needs.items) (needs_view c.fit_row.new.needs.items) c.loop-owner-test.true
    c.in_ok-push-in-Ok.ensures.items c.loop-owner.invariant c.in-Ok.ensures

pub returns : goal.returns
returns c =
    rows-end c.args.set.now.schema.now c.args.set.now.entities c.args.listed.now c.loop-owner.owner-index (param_views c.args.params.items)
    (param_views (reverse c.loop-owner.left.items)) (rows_view c.loop-owner.rows.items) (needs_view c.args.needs.now.items)
    (needs_view c.loop-owner.needs.items)
    c.loop-owner-test.false (param_views-length c.args.params.items ∙ c.requires.each) c.loop-owner.invariant
