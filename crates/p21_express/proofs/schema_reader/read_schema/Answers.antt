use Rattle.p21_express_syntax.specs.Views.{schema_view}
use Rattle.p21_express.proofs.Outlines.{declared-read, none-read, syntax-refused}
use Rattle.p21_express.proofs.schema_reader.read_schema.Goals as goal

pub returns-in_err-declarations : goal.returns-in_err-declarations
returns-in_err-declarations c = syntax-refused c.args.text.now c.in_err-declarations.field-0.0 c.from_residual.result
    c.from_residual.ensures.0 c.from_residual.ensures.1 c.in_err-declarations.ensures

pub returns-in-Ok : goal.returns-in-Ok
returns-in-Ok c = declared-read c.args.text.now (schema_view c.in_ok-declarations.declarations) c.in-Ok.schema c.in_ok-declarations.ensures
    c.in-Ok.ensures

pub returns : goal.returns
returns c = λ other. none-read c.args.text.now (schema_view c.in_ok-declarations.declarations) c.in_ok-declarations.ensures
    (c.in-Err.ensures (λ e. other (c.first_refusal.ensures e)))
