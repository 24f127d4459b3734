use Rattle.std.specs.Prelude.{map}
use Rattle.std.proofs.Common.{sym, ◌∙◌, subst}
use Rattle.std.proofs.lemmas.List.{length-map}
use Rattle.p21_express_outline.specs.DeclaredBy.{DeclaredBy}
use Rattle.p21_express_syntax.specs.Views.{schema_view}
use Rattle.p21_express_graph.specs.Redeclaring.{redeclaring, redeclaring_schema}
use Rattle.p21_express.proofs.Holding.{whole-holds}
use Rattle.p21_express.proofs.Whole.{found-length, found-refused, whole-declared}
use Rattle.p21_express.proofs.schema_reader.declared_schema.Goals as goal

pub returns-in_err-found : goal.returns-in_err-found
returns-in_err-found c =
    found-refused (schema_view c.args.declarations.now) c.in_ok-bare.bare c.in_err-found.field-0.0 c.from_residual-in_err-found.result
    c.from_residual-in_err-found.ensures.0 c.from_residual-in_err-found.ensures.1 c.in_ok-bare.ensures c.in_err-found.ensures

pub with_redeclarations-requires-clause-each : goal.with_redeclarations-requires-clause-each
with_redeclarations-requires-clause-each c =
    found-length (schema_view c.args.declarations.now) c.in_ok-bare.bare (map redeclaring c.in_ok-found.found.items) c.in_ok-bare.ensures
    c.in_ok-found.ensures ∙ length-map c.in_ok-found.found.items redeclaring

pub with_redeclarations-requires-clause-whole : goal.with_redeclarations-requires-clause-whole
with_redeclarations-requires-clause-whole c =
    let found = map redeclaring c.in_ok-found.found.items in
    whole-holds (schema_view c.args.declarations.now) (redeclaring_schema c.in_ok-bare.bare found) c.requires
    (whole-declared (schema_view c.args.declarations.now) c.in_ok-bare.bare found c.in_ok-bare.ensures c.in_ok-found.ensures)

pub returns : goal.returns
returns c =
    subst (DeclaredBy (schema_view c.args.declarations.now)) (sym (c.in_ok-new.ensures ∙ c.in_ok-hierarchy.ensures))
    (whole-declared (schema_view c.args.declarations.now) c.in_ok-bare.bare (map redeclaring c.in_ok-found.found.items) c.in_ok-bare.ensures
    c.in_ok-found.ensures)
