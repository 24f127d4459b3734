use Rattle.p21_spec_schema.specs.Redeclaration.{RedeclaresPlace}
use Rattle.p21_express_outline.specs.Known.{names_of}
use Rattle.p21_express_outline.specs.Redeclarations.{DigestRedeclaredIs}
use Rattle.p21_express_syntax.specs.Views.{type_view}
use Rattle.p21_express_graph.specs.SchemaContents.{redeclared}
use Rattle.p21_express_outline.proofs.Finding.{find-refused}
use Rattle.p21_express.proofs.redeclared.redeclared_as.Goals as goal

pub returns-in_err-place : goal.returns-in_err-place
returns-in_err-place c =
    find-refused redeclared (DigestRedeclaredIs c.args.redeclarer.now.hierarchy.now (names_of c.args.redeclarer.now.known.now)
    c.args.redeclarer.now.entity.0 (
      (c.args.supertype.now, c.args.name.now),
      c.args.explicit.now.optional,
      type_view
          c.args.explicit.now.data_type,
    ))
    (RedeclaresPlace c.args.redeclarer.now.hierarchy.now c.args.redeclarer.now.entity.0 c.args.supertype.now c.args.name.now)
    c.in_err-place.field-0.0 c.from_residual.result c.from_residual.ensures.0 c.from_residual.ensures.1 (λ y h. (y.place, h.0))
    c.in_err-place.ensures
