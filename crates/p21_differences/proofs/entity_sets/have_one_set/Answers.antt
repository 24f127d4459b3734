use Rattle.std.proofs.Common.{arith}
use Rattle.std.proofs.lemmas.Bool.Decides.{nat_tests}
use Rattle.p21_differences.proofs.Sets.{ahead-ended, ahead-longer, ahead-next, ahead-other, ahead-shorter, all-ahead, sets-one, sets-other}
use Rattle.p21_differences.proofs.entity_sets.have_one_set.Goals as goal

pub loop-entity-init : goal.loop-entity-init
loop-entity-init c record_ other stated others es fs are are_ =
    all-ahead c.entities-left.result c.entities-others.result es fs (c.entities-left.ensures.any record_ stated es are)
    (c.entities-others.ensures.any other others fs are_)

pub returns-in_default-next : goal.returns-in_default-next
returns-in_default-next c record_ other stated others =
    sets-other c.args.schema.now c.well_formed-2.ensures c.holds_together.ensures c.args.name c.args.name record_ other c.args.first.now
    c.args.second.now stated others
    (λ es fs are are_.
    ahead-shorter c.loop-entity.left c.loop-entity.others c.next.new.self c.next-in-Some.new.self es fs c.in-Some.entity
    (c.loop-entity.invariant record_ other stated others es fs are are_) c.in-Some.ensures.handed
    c.in_default-next.ensures.handed)

pub returns-then-entity-beside : goal.returns-then-entity-beside
returns-then-entity-beside c record_ other stated others =
    let test = c.if-entity-beside.true in
    sets-other c.args.schema.now c.well_formed-2.ensures c.holds_together.ensures c.args.name c.args.name record_ other c.args.first.now
    c.args.second.now stated others
    (λ es fs are are_.
    ahead-other c.loop-entity.left c.loop-entity.others c.next.new.self c.next-in-Some.new.self es fs c.in-Some.entity c.in-Some-next.beside
    (c.loop-entity.invariant record_ other stated others es fs are are_)
    c.in-Some.ensures.handed c.in-Some-next.ensures.handed (λ same. grind (arith, nat_tests)))

pub loop-entity-preserved : goal.loop-entity-preserved
loop-entity-preserved c record_ other stated others es fs are are_ =
    let test = c.if-entity-beside.false in
    ahead-next c.loop-entity.left c.loop-entity.others c.next.new.self c.next-in-Some.new.self es fs c.in-Some.entity c.in-Some-next.beside
    (c.loop-entity.invariant record_ other stated others es fs are are_)
    c.in-Some.ensures.handed c.in-Some-next.ensures.handed (grind (arith, nat_tests))

pub returns-in-Some-next-2 : goal.returns-in-Some-next-2
returns-in-Some-next-2 c record_ other stated others =
    sets-other c.args.schema.now c.well_formed-2.ensures c.holds_together.ensures c.args.name c.args.name record_ other c.args.first.now
    c.args.second.now stated others
    (λ es fs are are_.
    ahead-longer c.loop-entity.left c.loop-entity.others c.next.new.self c.next-2.new.self es fs _
    (c.loop-entity.invariant record_ other stated others es fs are are_) c.in_default.ensures.handed
    c.in-Some-next-2.ensures.handed)

pub returns-in-None : goal.returns-in-None
returns-in-None c record_ other stated others =
    sets-one c.args.schema.now c.well_formed-2.ensures c.holds_together.ensures c.args.name c.args.name record_ other c.args.first.now
    c.args.second.now stated others
    (λ es fs are are_.
    ahead-ended c.loop-entity.left c.loop-entity.others c.next.new.self c.next-2.new.self es fs
    (c.loop-entity.invariant record_ other stated others es fs are are_) c.in_default.ensures.handed c.in-None.ensures.handed)
