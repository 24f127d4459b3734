use Rattle.std.specs.Prelude.{◌≡◌, length, map}
use Rattle.std.proofs.Common.{ap, sym, ◌∙◌, subst}
use Rattle.p21_spec_schema.specs.Schema.{Schema}
use Rattle.p21_express_graph.specs.SchemaContents.{entity, schema_of}
use Rattle.p21_express_graph.specs.Redeclaring.{redeclaring, redeclaring_schema}
use Rattle.p21_express_graph.specs.Resolved.{HoldsTogether}
use Rattle.p21_express_graph.proofs.Gatherings.{mapped-length}
use Rattle.p21_schema.proofs.UnchangedTables.{redeclaring-tables}
use Rattle.p21_schema.proofs.hierarchy.Hierarchy.with_redeclarations.Goals as goal

pub contents_with-requires-clause-each : goal.contents_with-requires-clause-each
contents_with-requires-clause-each c = sym (mapped-length entity c.self.inside.parts.entities.items)
    ∙ ap (λ s. length s.entities) c.self.view_is ∙ c.requires.each

pub invariant_of-result : goal.invariant_of-result
invariant_of-result c =
    let s : Schema = schema_of c.self.inside.parts in
    let t : Schema = schema_of c.in_ok-whole.whole in
    let ys = map redeclaring c.args.found.items in
    let long : length s.entities ≡ length ys = ap (λ z. length z.entities) c.self.view_is ∙ c.requires.each
    ∙ sym (mapped-length redeclaring c.args.found.items) in (
      subst HoldsTogether (sym (c.in_ok-whole.ensures.value ∙ ap (λ z. redeclaring_schema z ys) c.self.view_is)) c.requires.whole,
      c.in_ok-whole.ensures.named,
      redeclaring-tables s t ys long c.in_ok-whole.ensures.value c.self.inside.tables c.self.invariant.2,
    )

pub returns : goal.returns
returns c = c.in_ok-whole.ensures.value ∙ ap (λ s. redeclaring_schema s (map redeclaring c.args.found.items)) c.self.view_is
