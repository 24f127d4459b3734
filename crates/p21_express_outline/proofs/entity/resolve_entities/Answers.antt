use Rattle.std.proofs.Common.{arith}
use Rattle.p21_express_outline.specs.Entities.{EntityFound}
use Rattle.p21_express_outline.specs.Known.{names_of}
use Rattle.p21_express_syntax.specs.Views.{entity_view}
use Rattle.p21_express_graph.specs.SchemaContents.{entity}
use Rattle.p21_express_outline.proofs.Finding.{each-refused_mapped, each-whole, zip-more}
use Rattle.p21_express_outline.proofs.entity.resolve_entities.Goals as goal

pub returns-in_err-resolve_entity : goal.returns-in_err-resolve_entity
returns-in_err-resolve_entity c =
    each-refused_mapped entity (EntityFound (names_of c.args.known.now)) entity_view c.args.declared.now c.loop-entity.entity-index
    c.entity-item.result c.in_err-resolve_entity.field-0.0 c.from_residual.result c.from_residual.ensures.0 c.from_residual.ensures.1
    c.loop-entity-test.true c.entity-item.is
    c.in_err-resolve_entity.ensures

pub loop-entity-preserved : goal.loop-entity-preserved
loop-entity-preserved c =
    zip-more entity (λ x found. EntityFound (names_of c.args.known.now) (entity_view x) found) c.args.declared.now
    c.loop-entity.entity-index c.entity-item.result c.loop-entity.found.items c.push.new.self.items c.in_ok-resolve_entity.field-0
    c.loop-entity-test.true c.entity-item.is c.loop-entity.invariant
    c.in_ok-resolve_entity.ensures c.in_ok-push.ensures.items

pub returns : goal.returns
returns c = each-whole entity (EntityFound (names_of c.args.known.now)) entity_view c.args.declared.now c.loop-entity.entity-index
    c.loop-entity.found.items (omega (arith, c.loop-entity-test.false)) c.loop-entity.invariant
