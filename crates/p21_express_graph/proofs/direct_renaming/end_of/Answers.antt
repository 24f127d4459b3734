use Rattle.std.specs.Prelude.{Some}
use Rattle.std.proofs.Common.{ap, ◌∙◌, get_or}
use Rattle.p21_spec_schema.specs.Declared.{Renames}
use Rattle.p21_express_graph.specs.Meaning.{kind}
use Rattle.p21_express_graph.specs.SchemaContents.{schema_of}
use Rattle.p21_express_graph.proofs.direct_renaming.end_of.Goals as goal
use Rattle.p21_express_graph.proofs.Ends.{end-itself, end-next}

pub returns-in-Some : goal.returns-in-Some
returns-in-Some c =
    let s = schema_of c.args.parts.now in
    let renames : Renames s c.args.of c.in-Some.next.0 = c.kind_in.ensures ∙ ap Some c.in-Some.ensures in
    end-next s c.args.of c.in-Some.next.0 (get_or c.args.ends.now c.in-Some.next.0 0) renames (c.requires.next c.in-Some.next.0 renames)

pub returns-in-None : goal.returns-in-None
returns-in-None c = end-itself (schema_of c.args.parts.now) c.args.of (kind c.kind_in.result.now) c.requires.of c.kind_in.ensures c.in-None.ensures
