use Rattle.std.specs.Prelude.{List, map, refl}
use Rattle.std.proofs.Common.{arith, ap, sym, ◌∙◌}
use Rattle.p21_spec_schema.specs.Schema.{Schema, Entity}
use Rattle.p21_express_graph.specs.SchemaContents.{entity, schema_of}
use Rattle.p21_express_graph.specs.Redeclaring.{redeclaring}
use Rattle.p21_express_graph.proofs.Gatherings.{mapped-length}
use Rattle.p21_express_graph.proofs.SameEntities.{each-same}
use Rattle.p21_express_graph.proofs.redeclaring.contents_with.Goals as goal

pub returns-clause-value : goal.returns-clause-value
returns-clause-value c =
    let s = schema_of c.args.parts in
    let f : List Entity → Schema = λ es. record { name = s.name; entities = es; types = s.types; one_of_lists = s.one_of_lists } in
    ap f c.in_ok-parts.ensures

pub returns-clause-named : goal.returns-clause-named
returns-clause-named c =
    let xs = map entity c.args.parts.entities.items in
    let ys = map redeclaring c.args.found.items in
    record {
      entities_are = c.requires.named.entities_are ∙ sym (ap (map (λ x. x.name)) c.in_ok-parts.ensures ∙ each-same (λ x. x.name) (λ x y. refl) xs ys (omega (arith, c.requires.each, mapped-length entity c.args.parts.entities.items, mapped-length redeclaring c.args.found.items)));
      types_are = c.requires.named.types_are;
    }
