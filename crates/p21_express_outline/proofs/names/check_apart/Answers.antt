use Rattle.p21_spec_basics.proofs.Members.{Contains-found}
use Rattle.p21_express_outline.proofs.Adding.{no-others, others-more}
use Rattle.p21_express_outline.proofs.names.check_apart.Goals as goal

pub returns-in-Some : goal.returns-in-Some
returns-in-Some c = λ other others.
    let there = rw c.in-Some.is at c.position.ensures in
    no-others c.args.entities.now c.args.types.now c.loop-defined.defined-index c.defined-item.result c.loop-defined-test.true
    c.defined-item.is (rw c.bytes.ensures at (Contains-found c.args.entities.now c.in-Some._at c.bytes.result.now there)) others

pub loop-defined-preserved : goal.loop-defined-preserved
loop-defined-preserved c =
    let none = rw c.in-None.is at c.position.ensures in
    others-more c.args.entities.now c.args.types.now c.loop-defined.defined-index c.defined-item.result c.loop-defined-test.true
    c.defined-item.is c.loop-defined.invariant (rw c.bytes.ensures at none)
