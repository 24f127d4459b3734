use Rattle.p21_express_outline.specs.Outline.{digest_names}
use Rattle.p21_express_syntax.specs.Views.{schema_view}
use Rattle.p21_express_outline.proofs.Adding.{knows-refused, entities-apart, types-apart, others-apart, known-found}
use Rattle.p21_express_outline.proofs.names.known_names.Goals as goal

pub returns-in_err-entities : goal.returns-in_err-entities
returns-in_err-entities c =
    knows-refused (digest_names (schema_view c.args.declarations.now)) _ c.in_err-entities.field-0.0 c.from_residual.result
    c.from_residual.ensures.0 c.from_residual.ensures.1
    (entities-apart c.args.declarations.now) (rw c.deref.ensures.value at c.in_err-entities.ensures)

pub returns-in_err-types : goal.returns-in_err-types
returns-in_err-types c =
    knows-refused (digest_names (schema_view c.args.declarations.now)) _ c.in_err-types.field-0.0 c.from_residual-in_err-types.result
    c.from_residual-in_err-types.ensures.0 c.from_residual-in_err-types.ensures.1
    (types-apart c.args.declarations.now) (rw c.deref-2.ensures.value at c.in_err-types.ensures)

pub returns-in_err-check_apart : goal.returns-in_err-check_apart
returns-in_err-check_apart c =
    let first = rw c.deref.ensures.value at c.in_ok-entities.ensures in
    knows-refused (digest_names (schema_view c.args.declarations.now)) _ c.in_err-check_apart.field-0.0
    c.from_residual-in_err-check_apart.result c.from_residual-in_err-check_apart.ensures.0 c.from_residual-in_err-check_apart.ensures.1
    (others-apart c.args.declarations.now c.in_ok-entities.entities first.0) (rw c.deref-3.ensures.value at c.in_err-check_apart.ensures)

pub returns : goal.returns
returns c =
    known-found c.args.declarations.now c.in_ok-entities.entities c.in_ok-types.types (rw c.deref.ensures.value at c.in_ok-entities.ensures)
    (rw c.deref-2.ensures.value at c.in_ok-types.ensures) (rw c.deref-3.ensures.value at c.in_ok-check_apart.ensures)
