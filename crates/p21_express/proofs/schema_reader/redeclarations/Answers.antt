use Rattle.std.specs.Prelude.{List, map, length}
use Rattle.std.specs.List.{enumerate_from}
use Rattle.std.proofs.Common.{ap, ◌∙◌, subst}
use Rattle.p21_express_outline.specs.Finding.{FindsEach}
use Rattle.p21_express_outline.specs.Known.{names_of}
use Rattle.p21_express_outline.specs.Outline.{Named}
use Rattle.p21_express_outline.specs.Redeclarations.{RedeclarationsAre}
use Rattle.p21_express_outline.proofs.OneSchema.{outline-tells}
use Rattle.p21_express_syntax.specs.Views.{entity_view, schema_view}
use Rattle.p21_express_syntax.specs.declared.entity.Entity as syntax
use Rattle.p21_express_graph.specs.Redeclaring.{redeclaring}
use Rattle.p21_express.proofs.Whole.{declared-length, known-few, known-names}
use Rattle.p21_express.proofs.schema_reader.redeclarations.Goals as goal

pub all_redeclarations-requires-clause-few : goal.all_redeclarations-requires-clause-few
all_redeclarations-requires-clause-few c = known-few c.args.bare.now c.names.result.now c.names.ensures.entities c.names.ensures.types
    c.holds_together.ensures

pub all_redeclarations-requires-clause-each : goal.all_redeclarations-requires-clause-each
all_redeclarations-requires-clause-each c = ap length c.deref.ensures.value
    ∙ declared-length c.args.declarations.now c.args.bare.now c.requires.bare

pub all_redeclarations-requires-clause-attributes_distinct : goal.all_redeclarations-requires-clause-attributes_distinct
all_redeclarations-requires-clause-attributes_distinct c =
    (outline-tells (schema_view c.args.declarations.now) c.args.bare.now c.requires.bare.outline).one_own

pub returns : goal.returns
returns c =
    let P : List syntax.Entity → Type 0 = λ ds. FindsEach redeclaring
    (λ own found. RedeclarationsAre c.args.bare.now (names_of c.names.result.now) (map entity_view ds) own.0 own.1 found)
    (enumerate_from 0 (map entity_view ds)) c.all_redeclarations.result in
    let Q : Named → Type 0 = λ n. FindsEach redeclaring
    (λ own found. RedeclarationsAre c.args.bare.now n (map entity_view c.args.declarations.now.entities.items) own.0 own.1 found)
    (enumerate_from 0 (map entity_view c.args.declarations.now.entities.items)) c.all_redeclarations.result in
    subst Q (known-names (schema_view c.args.declarations.now) c.args.bare.now c.names.result.now c.requires.bare.outline
    c.names.ensures.entities c.names.ensures.types) (subst P c.deref.ensures.value c.all_redeclarations.ensures)
