use Rattle.std.specs.Prelude.{[], ◌∷◌, map}
use Rattle.std.proofs.Common.{sym, subst}
use Rattle.p21_express_outline.specs.Outline.{digest_redeclared_names}
use Rattle.p21_express_outline.specs.Redeclarations.{DigestDerivedAre, no_more}
use Rattle.p21_express_syntax.specs.Views.{entity_view}
use Rattle.p21_express_syntax.specs.declared.attributes.AttributeName.{AttributeName}
use Rattle.p21_express_graph.specs.Meaning.{place as place_of}
use Rattle.p21_express.proofs.Deriving.{adds-none, adds-one}
use Rattle.p21_express.proofs.derived.add_derived.Goals as goal

pub returns-in-Own : goal.returns-in-Own
returns-in-Own c =
    let P : AttributeName → Type 0 = λ x. DigestDerivedAre c.args.hierarchy.now (map entity_view c.args.declared.now) c.args.entity.0
    (digest_redeclared_names (x ∷ [])) [] in
    adds-none c.args.hierarchy.now (map entity_view c.args.declared.now) c.args.entity.0
    (digest_redeclared_names (c.args.attribute.now ∷ [])) c.args.out.now (subst P (sym c.in-Own.is) no_more)

pub returns-in_ok-push-in-Some : goal.returns-in_ok-push-in-Some
returns-in_ok-push-in-Some c =
    let place = c.in-Some.place in
    let P : AttributeName → Type 0 = λ x. DigestDerivedAre c.args.hierarchy.now (map entity_view c.args.declared.now) c.args.entity.0
    (digest_redeclared_names (x ∷ [])) (place_of place ∷ []) in
    let found = rw c.in-Some.is at c.in_ok-place-in-Redeclared.ensures in
    adds-one c.args.hierarchy.now (map entity_view c.args.declared.now) c.args.entity.0
    (digest_redeclared_names (c.args.attribute.now ∷ [])) c.args.out.now c.push.new.self place c.in_ok-push-in-Some.ensures.items
    (subst P (sym c.in-Redeclared.is) (rw (c.bytes.ensures, c.bytes-in-Redeclared.ensures) at found))
