use Rattle.std.proofs.Common.{◌≡◌, List, None, arith, subst, sym}
use Rattle.std.specs.BTreeMap.{get_by}
use Rattle.p21_express_graph.specs.declared.number.EntityId.{EntityId}
use Rattle.p21_mapping_values.specs.TypedView.{ids_view}
use Rattle.p21_stream_store.proofs.SetNumbers.{set-added, sets-numbered}
use Rattle.p21_stream_store.specs.EntitySets.{key_items, sets_of}
use Rattle.p21_stream_store.specs.Numbering.{Interns}
use Rattle.p21_stream_store.specs.SetOrder.{by_size}
use Rattle.p21_stream_store.specs.declared.set_key.SetKey.{SetKey}
use Rattle.p21_stream_store.specs.declared.set_key.SetKey.TheVariants.{Kept}
use Rattle.p21_stream_store.proofs.entity_sets.push.Goals as goal

pub returns-clause-numbered : goal.returns-clause-numbered
returns-clause-numbered c =
    let none = subst (λ (es : List EntityId). get_by (λ (k : SetKey). by_size es (key_items k)) c.args.numbers.now ≡ None)
    (sym c.in_ok-set.ensures.ok) c.requires.absent in
    sets-numbered c.args.all.now.items c.add.new.list.items c.args.numbers.now (Kept c.in_ok-set.set) c.in_ok-shared.shared
    c.requires.numbered none c.in_ok-add.ensures.ok c.in_ok-shared.ensures.cases c.insert.new.self c.len-number.result (omega arith)
    c.in-Ok.ensures.updates

pub returns-clause-ok : goal.returns-clause-ok
returns-clause-ok c =
    let none = subst (λ (es : List EntityId). get_by (λ (k : SetKey). by_size es (key_items k)) c.args.numbers.now ≡ None)
    (sym c.in_ok-set.ensures.ok) c.requires.absent in
    subst (λ (es : List EntityId). Interns (sets_of c.args.all.now.items) (ids_view es) c.len-number.result (sets_of c.add.new.list.items))
    c.in_ok-set.ensures.ok
    (set-added c.args.all.now.items c.add.new.list.items c.args.numbers.now (Kept c.in_ok-set.set) c.in_ok-shared.shared c.requires.numbered
    none c.in_ok-add.ensures.ok c.in_ok-shared.ensures.cases c.len-number.result (omega arith))
