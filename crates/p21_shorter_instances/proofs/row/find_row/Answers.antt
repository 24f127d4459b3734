use Rattle.std.specs.Prelude.{List}
use Rattle.std.proofs.Common.{inl, inr, subst, sym, ◌∙◌}
use Rattle.p21_spec_exchange.specs.Keyword.{IsKeyword}
use Rattle.p21_express_graph.specs.Orders.{numbers}
use Rattle.p21_express_graph.specs.Rising.{IsOwnRising}
use Rattle.p21_express_graph.specs.declared.number.EntityId.{EntityId}
use Rattle.p21_spec_schema.specs.Schema.{EntityNamed}
use Rattle.p21_shorter_instances.proofs.row.find_row.Goals as goal

pub returns : goal.returns
returns c =
    let R : List EntityId → Type 0 = λ xs. IsOwnRising c.args.schema.now c.args.entity.0 (numbers xs) in
    record {
      may = c.requires.may;
      entities_are = subst R (sym (c.in_ok-entities.ensures.items ∙ c.items.ensures)) c.in_ok-found.ensures.ok;
      steps_are = c.in_ok-steps.ensures;
      keyword = λ some. elim c.new-keyword.ensures [
        | inl none ↦ absurd (some none)
        | inr (is, keyword) ↦ (
          subst (EntityNamed c.args.schema.now c.args.entity.0) (sym is) c.entity_name.ensures,
          subst IsKeyword
              (sym is) keyword,
        )
      ];
    }
