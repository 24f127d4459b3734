use Rattle.std.proofs.Common.{ℕ, arith, subst}
use Rattle.p21_express.specs.NamedOwners.{OwnersUpTo}
use Rattle.p21_express.proofs.OwnerLists.{owners-none, owners-more}
use Rattle.p21_express.proofs.named_owners.NamedOwners.of.Goals as goal

pub loop-number-init : goal.loop-number-init
loop-number-init c = owners-none c.args.hierarchy.now c.in_ok-named.named c.in_ok-named.ensures

pub loop-number-preserved : goal.loop-number-preserved
loop-number-preserved c = owners-more c.args.hierarchy.now c.loop-number.number c.loop-number.named c.add_entity.new.self
    (omega (arith, c.loop-number-test.true, c.entities-number-end.ensures)) c.loop-number.invariant c.in_ok-add_entity.ensures

pub returns : goal.returns
returns c =
    let P : ℕ → Type 0 = λ n. OwnersUpTo c.args.hierarchy.now n c.loop-number.named in
    subst P (omega (arith, c.loop-number-test.false, c.entities-number-end.ensures, c.loop-number.auto.number-end)) c.loop-number.invariant
