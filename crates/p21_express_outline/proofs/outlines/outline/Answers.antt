use Rattle.p21_express_outline.specs.Known.{names_of}
use Rattle.p21_express_syntax.specs.Views.{schema_view}
use Rattle.p21_express_outline.proofs.Outlining.{entities-refused, outline-found}
use Rattle.p21_express_outline.proofs.outlines.outline.Goals as goal

pub returns-in_err-entities : goal.returns-in_err-entities
returns-in_err-entities c =
    entities-refused (schema_view c.args.declarations.now) (names_of c.in_ok-known.known) c.in_err-entities.field-0.0
    c.from_residual-in_err-entities.result c.in_ok-known.ensures.0 c.from_residual-in_err-entities.ensures.0
    c.from_residual-in_err-entities.ensures.1
    (rw c.deref.ensures.value at c.in_err-entities.ensures)

pub returns : goal.returns
returns c =
    outline-found (schema_view c.args.declarations.now) c.in_ok-name.name c.in_ok-known.known c.in_ok-entities.entities c.in_ok-types.types
    c.in_ok-one_of_lists.one_of_lists c.in_ok-known.ensures c.in_ok-name.ensures
    (rw c.deref.ensures.value at c.in_ok-entities.ensures) (rw c.deref-2.ensures.value at c.in_ok-one_of_lists.ensures)
    (rw c.deref-3.ensures.value at c.in_ok-types.ensures)
