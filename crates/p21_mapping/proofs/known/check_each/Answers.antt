use Rattle.std.proofs.Common.{arith, subst, sym, ◌<◌, length, map}
use Rattle.p21_spec_basics.proofs.Members.{Each-member}
use Rattle.p21_express_graph.specs.Meaning.{place_type}
use Rattle.p21_grammar_tree.specs.Fault.{fault_number}
use Rattle.p21_grammar_tree.specs.View.{view}
use Rattle.p21_mapping.proofs.GrownLists.{numbered-is}
use Rattle.p21_mapping.proofs.OwnRecords.{broken-at, mapped-is}
use Rattle.p21_mapping.specs.Outcome.{IsStoredIn}
use Rattle.p21_mapping.specs.Rows.{param_views}
use Rattle.p21_mapping.proofs.known.check_each.Goals as goal

pub fit_place-requires : goal.fit_place-requires
fit_place-requires c =
    let at = c.index-types-index.result in
    subst (IsStoredIn c.args.schema.now) (sym c.same_type-at.ensures)
    (Each-member (IsStoredIn c.args.schema.now) (map place_type c.args.types.now) (place_type at) c.requires.stored
    (numbered-is place_type c.args.types.now c.loop-index.index at c.loop-index-test.true c.index-types-index.is))

pub returns-in-Err : goal.returns-in-Err
returns-in-Err c = λ other.
    let at = c.index-types-index.result in
    let p = c.index-params-index.result in
    let below : c.loop-index.index < length c.args.params.now = omega (arith, c.loop-index-test.true, c.requires.each) in
    broken-at c.args.schema.now (map place_type c.args.types.now) (param_views c.args.params.now) c.loop-index.index
    (fault_number c.in-Err.fault) (place_type at) (place_type c.same_type-at.result) (view p) (view c.in_ok-param.param)
    (mapped-is place_type c.args.types.now c.loop-index.index at c.loop-index-test.true c.index-types-index.is)
    (mapped-is view c.args.params.now c.loop-index.index p below c.index-params-index.is) c.same_type-at.ensures c.in_ok-param.ensures
    (c.in-Err.ensures other)
