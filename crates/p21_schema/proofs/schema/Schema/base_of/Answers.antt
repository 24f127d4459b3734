use Rattle.std.specs.Prelude.{◌≡◌, Some, refl}
use Rattle.std.proofs.Common.{ap, ◌∙◌}
use Rattle.p21_spec_schema.specs.Schema.{alias, defined, kind_of}
use Rattle.p21_express_graph.specs.Meaning.{type_use, kind}
use Rattle.p21_express_graph.proofs.Renaming.{comes-further}
use Rattle.p21_schema.proofs.schema.Schema.base_of.Goals as goal

pub returns-in-Alias : goal.returns-in-Alias
returns-in-Alias c =
    let direct_renaming : kind_of c.args.self.now c.end-last.result.0 ≡ Some (alias (type_use c.in-Alias.direct_renaming)) =
    c.type_kind.ensures ∙ ap (λ k. Some (kind k)) c.in-Alias.is in (
      type_use c.in-Alias.direct_renaming,
      comes-further c.args.self.now (defined c.args.of.0) c.end-last.result.0
          (type_use c.in-Alias.direct_renaming) c.end-last.ensures.comes direct_renaming,
      (refl, c.end-last.ensures.no_more (type_use c.in-Alias.direct_renaming) direct_renaming),
    )

pub returns-in-Items : goal.returns-in-Items
returns-in-Items c = (
  defined c.end-last.result.0,
  c.end-last.ensures.comes,
  (c.end-last.result.0, refl, c.type_kind.ensures ∙ ap (λ k. Some (kind k)) c.in-Items.is),
)
