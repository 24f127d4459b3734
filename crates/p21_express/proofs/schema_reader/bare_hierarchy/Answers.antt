use Rattle.p21_express_syntax.specs.Views.{schema_view}
use Rattle.p21_express_graph.specs.SchemaContents.{schema_of}
use Rattle.p21_express.proofs.Holding.{bare-holds}
use Rattle.p21_express.proofs.Whole.{memory-bare}
use Rattle.p21_express.proofs.schema_reader.bare_hierarchy.Goals as goal

pub new-requires-clause-holds_together : goal.new-requires-clause-holds_together
new-requires-clause-holds_together c = bare-holds (schema_view c.args.declarations.now) (schema_of c.in_ok-parts.parts) c.requires
    c.in_ok-parts.ensures.0

pub returns-in_err-new : goal.returns-in_err-new
returns-in_err-new c = memory-bare (schema_view c.args.declarations.now) c.from_residual-in_err-new.result
    c.from_residual-in_err-new.ensures.0 c.from_residual-in_err-new.ensures.1
