use Rattle.std.specs.List.{AllByRecursion as Each}
use Rattle.std.specs.Prelude.{List}
use Rattle.std.proofs.Common.{sym, subst, ◌∙◌}
use Rattle.p21_spec_basics.proofs.Members.{Contains-none}
use Rattle.p21_express_graph.specs.declared.number.EntityId.{EntityId}
use Rattle.p21_express_graph.specs.Lookups.{AreEntities}
use Rattle.p21_mapping_values.specs.declared.value.Values.{Values}
use Rattle.p21_mapping_values.specs.KnownTypes.{HaveKnownTypes}
use Rattle.p21_mapping_values.specs.TypedView.{ids_view, rows_view}
use Rattle.p21_test_numbering.proofs.tests.labels.has_label.Goals as goal

pub node-requires : goal.node-requires
node-requires c =
    let P : List EntityId → Type 0 = λ es. AreEntities c.args.schema.now (ids_view es) in
    let Q : List Values → Type 0 = λ rows. Each (HaveKnownTypes c.args.schema.now) (rows_view rows) in
    record {
      entities_are = subst P (sym (c.from_vec.ensures ∙ c.new.ensures.items)) (λ e among. absurd (Contains-none e among));
      known = subst Q (sym (c.from_vec-2.ensures ∙ c.new-2.ensures.items)) tt;
    }
