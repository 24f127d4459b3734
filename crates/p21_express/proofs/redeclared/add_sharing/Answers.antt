use Rattle.std.specs.Prelude.{[], ◌∷◌, take, drop, ◌+◌, ◌≡◌, List, ◌++◌, map, ℕ, Bool}
use Rattle.std.specs.List.{AllZip}
use Rattle.std.proofs.Common.{sym, subst}
use Rattle.p21_spec_schema.specs.Schema.{Redeclared}
use Rattle.p21_express_outline.specs.Known.{names_of}
use Rattle.p21_express.specs.Explicit.{redeclared_by}
use Rattle.p21_express_outline.specs.Redeclarations.{DigestRedeclaredIs}
use Rattle.p21_express_syntax.specs.Digest.{TypeDigest}
use Rattle.p21_express_syntax.specs.Views.{attributes_view}
use Rattle.p21_express_graph.specs.SchemaContents.{redeclared}
use Rattle.p21_express_outline.proofs.Finding.{adds-refused, adds-more}
use Rattle.p21_express.proofs.Explicit.{by-split, by-taken}
use Rattle.p21_express.proofs.redeclared.add_sharing.Goals as goal

pub returns-in_err-add_redeclared : goal.returns-in_err-add_redeclared
returns-in_err-add_redeclared c =
    let x = attributes_view c.args.explicit.now in
    let names = c.args.explicit.now.names.items in
    adds-refused redeclared (DigestRedeclaredIs c.args.redeclarer.now.hierarchy.now (names_of c.args.redeclarer.now.known.now)
    c.args.redeclarer.now.entity.0) (redeclared_by x names) (redeclared_by x (take c.loop-name.name-index names))
    (redeclared_by x (c.name-item.result ∷ [])) (redeclared_by x (drop (c.loop-name.name-index + 1) names))
    c.in_err-add_redeclared.field-0.0 c.from_residual.result c.args.out.now c.add_redeclared.new.out c.from_residual.ensures.0
    c.from_residual.ensures.1
    (by-split x names c.loop-name.name-index c.name-item.result (rw c.deref-name-items.ensures.value at c.loop-name-test.true)
    (rw c.deref-name-items.ensures.value at c.name-item.is)) c.in_err-add_redeclared.ensures

pub loop-name-preserved : goal.loop-name-preserved
loop-name-preserved c =
    let x = attributes_view c.args.explicit.now in
    let names = c.args.explicit.now.names.items in
    let Is = DigestRedeclaredIs c.args.redeclarer.now.hierarchy.now (names_of c.args.redeclarer.now.known.now)
    c.args.redeclarer.now.entity.0 in
    let P : List ((List ℕ × List ℕ) × Bool × TypeDigest)
    → Type 0 = λ zs. (ys : List Redeclared) × (map redeclared c.add_redeclared.new.out.items ≡ map redeclared c.args.out.now.items
    ++ ys) × AllZip Is zs ys in
    subst P (sym (by-taken x names c.loop-name.name-index c.name-item.result (rw c.deref-name-items.ensures.value at c.loop-name-test.true)
    (rw c.deref-name-items.ensures.value at c.name-item.is)))
    (adds-more redeclared Is (redeclared_by x (take c.loop-name.name-index names)) (redeclared_by x (c.name-item.result ∷ []))
    c.args.out.now.items c.loop-name.out.items c.add_redeclared.new.out.items c.loop-name.invariant c.in_ok-add_redeclared.ensures)
