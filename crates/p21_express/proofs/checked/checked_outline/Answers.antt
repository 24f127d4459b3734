use Rattle.p21_express_syntax.specs.Views.{schema_view}
use Rattle.p21_express.proofs.Outlines.{few-of, outline-refused, parts-refused}
use Rattle.p21_express.proofs.checked.checked_outline.Goals as goal

pub outline-requires : goal.outline-requires
outline-requires c = few-of c.args.declarations.now c.requires

pub returns-in_err-parts : goal.returns-in_err-parts
returns-in_err-parts c = outline-refused (schema_view c.args.declarations.now) c.in_err-parts.field-0.0 c.from_residual.result
    c.from_residual.ensures.0 c.from_residual.ensures.1 c.in_err-parts.ensures

pub check_parts-requires : goal.check_parts-requires
check_parts-requires c = (schema_view c.args.declarations.now, c.requires, c.in_ok-parts.ensures)

pub returns-in_err-check_parts : goal.returns-in_err-check_parts
returns-in_err-check_parts c =
    parts-refused (schema_view c.args.declarations.now) c.in_ok-parts.parts c.in_err-check_parts.field-0.0
    c.from_residual-in_err-check_parts.result c.from_residual-in_err-check_parts.ensures.0 c.from_residual-in_err-check_parts.ensures.1
    (c.in_err-check_parts.ensures (schema_view c.args.declarations.now) c.requires c.in_ok-parts.ensures)

pub returns : goal.returns
returns c = c.in_ok-check_parts.ensures (schema_view c.args.declarations.now) c.requires c.in_ok-parts.ensures
