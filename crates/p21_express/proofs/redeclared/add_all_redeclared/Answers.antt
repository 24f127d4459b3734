use Rattle.std.specs.Prelude.{◌≡◌, [], map, true, false}
use Rattle.std.specs.Arc.{arc_value}
use Rattle.std.proofs.Common.{sym, subst, ◌∙◌}
use Rattle.std.proofs.lemmas.List.{append-nil}
use Rattle.p21_express.specs.Explicit.{redeclared_by}
use Rattle.p21_express_outline.specs.Known.{names_of}
use Rattle.p21_express_outline.specs.Outline.{DigestTypeIs, digest_redeclared_names}
use Rattle.p21_express_outline.specs.Redeclarations.{DigestRedeclaredIs}
use Rattle.p21_express_syntax.specs.Views.{attributes_view, type_view}
use Rattle.p21_express_graph.specs.declared.type_use.TypeUse.{TypeUse}
use Rattle.p21_express_graph.specs.Meaning.{type_use}
use Rattle.p21_express_graph.specs.SchemaContents.{redeclared}
use Rattle.p21_express_outline.proofs.Finding.{adds-refused}
use Rattle.p21_express.proofs.Explicit.{by-empty, by-none}
use Rattle.p21_express.proofs.redeclared.add_all_redeclared.Goals as goal

pub returns-then-not-has_redeclared : goal.returns-then-not-has_redeclared
returns-then-not-has_redeclared c =
    let x = c.args.explicit.now in
    let r = c.args.redeclarer.now in
    let tells = rw c.deref.ensures.value at c.has_redeclared.ensures in (
      [],
      sym (append-nil (map redeclared c.args.out.now.items)),
      by-empty r.hierarchy.now (names_of r.known.now) r.entity.0
          (type_view x.data_type) x.optional (digest_redeclared_names x.names.items)
          (λ some. let t : true ≡ false = sym (tells.1 some) ∙ c.if-not-has_redeclared.true in cc),
    )

pub returns-in_err-type_use : goal.returns-in_err-type_use
returns-in_err-type_use c =
    let x = c.args.explicit.now in
    let r = c.args.redeclarer.now in
    let tells = rw c.deref.ensures.value at c.has_redeclared.ensures in
    let all = redeclared_by (attributes_view x) x.names.items in
    adds-refused redeclared (DigestRedeclaredIs r.hierarchy.now (names_of r.known.now) r.entity.0) all [] all [] c.in_err-type_use.field-0.0
    c.from_residual.result c.args.out.now c.args.out.now c.from_residual.ensures.0 c.from_residual.ensures.1 (sym (append-nil all))
    (λ other. by-none r.hierarchy.now (names_of r.known.now) r.entity.0 (type_view x.data_type) x.optional
    (digest_redeclared_names x.names.items) (tells.0 c.if-not-has_redeclared.false) (c.in_err-type_use.ensures other))

pub add_sharing-requires-clause-typed : goal.add_sharing-requires-clause-typed
add_sharing-requires-clause-typed c =
    let P : TypeUse → Type 0 = λ t. DigestTypeIs (names_of c.args.redeclarer.now.known.now) (type_view c.args.explicit.now.data_type)
    (type_use t) in
    subst P (sym c.in_ok-shared.ensures.ok) c.in_ok-type_use.ensures
