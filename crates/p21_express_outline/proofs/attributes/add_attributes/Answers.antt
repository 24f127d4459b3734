use Rattle.std.specs.Prelude.{◌≡◌, [], map, true, false}
use Rattle.std.specs.Arc.{arc_value}
use Rattle.std.proofs.Common.{sym, subst, ◌∙◌}
use Rattle.std.proofs.lemmas.List.{append-nil}
use Rattle.p21_express_outline.specs.Attributes.{own_of, own_with}
use Rattle.p21_express_outline.specs.Known.{names_of}
use Rattle.p21_express_outline.specs.Outline.{DigestAttributeIs, DigestTypeIs, digest_own_names}
use Rattle.p21_express_syntax.specs.Views.{attributes_view, type_view}
use Rattle.p21_express_graph.specs.declared.type_use.TypeUse.{TypeUse}
use Rattle.p21_express_graph.specs.Meaning.{type_use}
use Rattle.p21_express_graph.specs.SchemaContents.{attribute}
use Rattle.p21_express_outline.proofs.Finding.{adds-refused, own-are, own-empty, own-none}
use Rattle.p21_express_outline.proofs.attributes.add_attributes.Goals as goal

pub returns-then-not-has_own : goal.returns-then-not-has_own
returns-then-not-has_own c =
    let x = c.args.explicit.now in
    let tells = rw c.deref.ensures.value at c.has_own.ensures in (
      [],
      sym (append-nil (map attribute c.args.out.now.items)),
      own-empty (names_of c.args.known.now) (type_view x.data_type) x.optional
          (digest_own_names x.names.items) (λ some. let t : true ≡ false = sym (tells.1 some) ∙ c.if-not-has_own.true in cc),
    )

pub returns-in_err-type_use : goal.returns-in_err-type_use
returns-in_err-type_use c =
    let x = c.args.explicit.now in
    let tells = rw c.deref.ensures.value at c.has_own.ensures in
    let all = own_of (attributes_view x) x.names.items in
    adds-refused attribute (DigestAttributeIs (names_of c.args.known.now)) all [] all [] c.in_err-type_use.field-0.0 c.from_residual.result
    c.args.out.now c.args.out.now c.from_residual.ensures.0 c.from_residual.ensures.1 (sym (append-nil all))
    (λ other. own-none (names_of c.args.known.now) (type_view x.data_type) x.optional (digest_own_names x.names.items)
    (tells.0 c.if-not-has_own.false) (c.in_err-type_use.ensures other))

pub returns : goal.returns
returns c =
    let x = c.args.explicit.now in
    let n = names_of c.args.known.now in
    let type = type_use (arc_value c.in_ok-shared.shared) in
    let P : TypeUse → Type 0 = λ t. DigestTypeIs n (type_view x.data_type) (type_use t) in
    let is = subst P (sym c.in_ok-shared.ensures.ok) c.in_ok-type_use.ensures in (
      own_with x.optional type x.names.items,
      rw c.deref-2.ensures.value at c.in_ok-add_sharing.ensures,
      own-are n (type_view x.data_type)
          x.optional type (digest_own_names x.names.items) is,
    )
