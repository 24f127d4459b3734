use Rattle.std.specs.List.{AllByRecursion as Each}
use Rattle.std.specs.Prelude.{◌≡◌, ◌<◌, ◌++◌, ◌∷◌, [], List, length}
use Rattle.std.proofs.Common.{arith, ap, sym, subst, ◌∙◌}
use Rattle.p21_express_graph.specs.declared.number.EntityId.{EntityId}
use Rattle.p21_express_graph.specs.Lookups.{AreEntities}
use Rattle.p21_mapping_values.specs.declared.value.Values.{Values}
use Rattle.p21_mapping_values.specs.KnownTypes.{HaveKnownTypes}
use Rattle.p21_mapping_values.specs.TypedView.{ids_view, rows_view}
use Rattle.p21_test_pairing.proofs.Known.{only-entity}
use Rattle.p21_test_pairing.proofs.tests.pairs.record.Goals as goal

pub returns : goal.returns
returns c =
    let e : EntityId = record { 0 = c.args.entity } in
    let low : c.args.entity < length c.args.schema.now.entities = omega arith in
    let P : List EntityId → Type 0 = λ es. AreEntities c.args.schema.now (ids_view es) in
    let Q : List Values → Type 0 = λ rows. Each (HaveKnownTypes c.args.schema.now) (rows_view rows) in
    let parts : c.from_vec.result ≡ e ∷ [] = c.from_vec.ensures ∙ c.in_ok-push.ensures.items ∙ ap (λ (es : List EntityId). es ++ e ∷ []) c.new-parts.ensures.items in
    let rows : c.from_vec-2.result ≡ c.args.values ∷ [] =
    c.from_vec-2.ensures ∙ c.in_ok-push-2.ensures.items ∙ ap (λ (rs : List Values). rs ++ c.args.values ∷ []) c.new-rows.ensures.items in
    record {
      entities_are = subst P (sym parts) (only-entity c.args.schema.now c.args.entity low);
      known = subst Q (sym rows) (c.requires, tt);
    }
