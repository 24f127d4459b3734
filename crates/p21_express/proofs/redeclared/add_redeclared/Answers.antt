use Rattle.std.specs.Prelude.{[], ◌∷◌}
use Rattle.std.proofs.Common.{ap}
use Rattle.p21_express_outline.specs.Known.{names_of}
use Rattle.p21_express.specs.Explicit.{redeclared_by}
use Rattle.p21_express_outline.specs.Redeclarations.{DigestRedeclaredIs}
use Rattle.p21_express_syntax.specs.Views.{attributes_view, type_view}
use Rattle.p21_express_graph.specs.SchemaContents.{redeclared}
use Rattle.p21_express_outline.proofs.Finding.{adds-refused, one-none, push-one}
use Rattle.p21_express.proofs.redeclared.add_redeclared.Goals as goal

pub returns-in_err-redeclared-in-Redeclared : goal.returns-in_err-redeclared-in-Redeclared
returns-in_err-redeclared-in-Redeclared c =
    let Is = DigestRedeclaredIs c.args.redeclarer.now.hierarchy.now (names_of c.args.redeclarer.now.known.now)
    c.args.redeclarer.now.entity.0 in
    let x = c.args.explicit.now in
    adds-refused redeclared Is (redeclared_by (attributes_view x) (c.args.name.now ∷ [])) []
    (((c.in-Redeclared.supertype, c.in-Redeclared.name), x.optional, type_view x.data_type) ∷ []) []
    c.in_err-redeclared-in-Redeclared.field-0.0 c.from_residual.result c.args.out.now c.args.out.now c.from_residual.ensures.0
    c.from_residual.ensures.1 (ap (λ n. redeclared_by (attributes_view x) (n ∷ [])) c.in-Redeclared.is)
    (λ other. one-none Is ((c.in-Redeclared.supertype, c.in-Redeclared.name), x.optional, type_view x.data_type)
    ((rw (c.bytes.ensures, c.bytes-in-Redeclared.ensures) at c.in_err-redeclared-in-Redeclared.ensures) other))

pub returns-in_ok-push-in-Redeclared : goal.returns-in_ok-push-in-Redeclared
returns-in_ok-push-in-Redeclared c =
    let x = c.args.explicit.now in
    push-one redeclared (DigestRedeclaredIs c.args.redeclarer.now.hierarchy.now (names_of c.args.redeclarer.now.known.now)
    c.args.redeclarer.now.entity.0) ((c.in-Redeclared.supertype, c.in-Redeclared.name), x.optional, type_view x.data_type)
    (redeclared_by (attributes_view x) (c.args.name.now ∷ []))
    c.args.out.now.items c.push.new.self.items c.in_ok-redeclared-in-Redeclared.redeclared c.in_ok-push-in-Redeclared.ensures.items
    (rw (c.bytes.ensures, c.bytes-in-Redeclared.ensures) at c.in_ok-redeclared-in-Redeclared.ensures)
    (ap (λ n. redeclared_by (attributes_view x) (n ∷ [])) c.in-Redeclared.is)
