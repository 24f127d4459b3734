use Rattle.std.specs.Prelude.{take, drop, ◌+◌, map}
use Rattle.p21_express_outline.specs.Known.{names_of}
use Rattle.p21_express_outline.specs.Outlined.{list_of}
use Rattle.p21_express_outline.specs.Outline.{DigestOneOfIs, digest_one_of_lists, one_of_list}
use Rattle.p21_express_syntax.specs.Views.{entity_view, some_list}
use Rattle.p21_express_outline.proofs.Finding.{all-refused, more-behind, lists_in-split, lists_in-taken}
use Rattle.p21_express_outline.proofs.outlines.resolve_lists.Goals as goal

pub returns-in_err-add_list : goal.returns-in_err-add_list
returns-in_err-add_list c =
    let k = c.loop-entity.entity-index in
    let item = c.entity-item.result in
    all-refused list_of (DigestOneOfIs (names_of c.args.known.now)) (digest_one_of_lists (map entity_view c.args.declared.now))
    (digest_one_of_lists (map entity_view (take k c.args.declared.now))) (one_of_list (some_list item.constraint.one_of))
    (digest_one_of_lists (map entity_view (drop (k + 1) c.args.declared.now))) c.in_err-add_list.field-0.0 c.from_residual.result
    c.from_residual.ensures.0 c.from_residual.ensures.1
    (lists_in-split c.args.declared.now k item c.loop-entity-test.true c.entity-item.is) c.in_err-add_list.ensures

pub loop-entity-preserved : goal.loop-entity-preserved
loop-entity-preserved c =
    let k = c.loop-entity.entity-index in
    let item = c.entity-item.result in
    more-behind list_of (DigestOneOfIs (names_of c.args.known.now)) (digest_one_of_lists (map entity_view (take k c.args.declared.now)))
    (one_of_list (some_list item.constraint.one_of)) (digest_one_of_lists (map entity_view (take (k + 1) c.args.declared.now)))
    c.loop-entity.found.items c.add_list.new.out.items c.loop-entity.invariant c.in_ok-add_list.ensures
    (lists_in-taken c.args.declared.now k item c.loop-entity-test.true c.entity-item.is)
