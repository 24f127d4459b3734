use Rattle.p21_express_outline.specs.Known.{names_of}
use Rattle.p21_express_outline.specs.Outline.{IsNamed}
use Rattle.p21_express_outline.proofs.Finding.{each-refused, zip-more}
use Rattle.p21_express_outline.proofs.lists.entities_named.Goals as goal

pub returns-in_err-entity_named : goal.returns-in_err-entity_named
returns-in_err-entity_named c =
    each-refused (λ e. e.0) (λ name e. IsNamed (names_of c.args.known.now).entities e name) c.args.names.now c.loop-name.name-index
    c.name-item.result c.in_err-entity_named.field-0.0 c.from_residual.result c.from_residual.ensures.0 c.from_residual.ensures.1
    c.loop-name-test.true c.name-item.is
    (rw c.bytes.ensures at c.in_err-entity_named.ensures)

pub loop-name-preserved : goal.loop-name-preserved
loop-name-preserved c =
    zip-more (λ e. e.0) (λ name e. IsNamed (names_of c.args.known.now).entities e name) c.args.names.now c.loop-name.name-index
    c.name-item.result c.loop-name.found.items c.push.new.self.items c.in_ok-entity_named.field-0 c.loop-name-test.true c.name-item.is
    c.loop-name.invariant
    (rw c.bytes.ensures at c.in_ok-entity_named.ensures) c.in_ok-push.ensures.items
