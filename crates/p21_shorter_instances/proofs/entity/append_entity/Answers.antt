use Rattle.p21_shorter_instances.proofs.Meaning.{entity-is}
use Rattle.p21_shorter_instances.proofs.Stepping.{entity-goes_on}
use Rattle.p21_shorter_instances.proofs.entity.append_entity.Goals as goal

pub is_prepared-requires : goal.is_prepared-requires
is_prepared-requires c = let (word, named, takes) = c.in-Some.ensures.some in entity-is c.args.schema.now c.in-Some.entity.0 word named

pub returns-clause-some : goal.returns-clause-some
returns-clause-some c = record {
  behind = c.in-Some.behind.now;
  between = _;
  entity = c.in-Some.ensures.some;
  opened =
      c.in-Some-append_delimiter.ensures.some;
}

pub returns-in_default-clause-plan : goal.returns-in_default-clause-plan
returns-in_default-clause-plan c = c.append_named.ensures.plan c.requires

pub returns-then-not-prepared-clause-plan : goal.returns-then-not-prepared-clause-plan
returns-then-not-prepared-clause-plan c = c.is_prepared.ensures (c.in-Some.ensures.plan c.requires)

pub returns-in_default-append_delimiter-clause-plan : goal.returns-in_default-append_delimiter-clause-plan
returns-in_default-append_delimiter-clause-plan c = c.is_prepared.ensures (c.in-Some.ensures.plan c.requires)

pub returns-clause-plan : goal.returns-clause-plan
returns-clause-plan c = c.is_prepared.ensures (c.in-Some.ensures.plan c.requires)

pub returns-in_default-is_prepared-clause-plan : goal.returns-in_default-is_prepared-clause-plan
returns-in_default-is_prepared-clause-plan c = c.is_prepared.ensures (c.in-Some.ensures.plan c.requires)

pub returns-in_default-is_prepared-clause-none : goal.returns-in_default-is_prepared-clause-none
returns-in_default-is_prepared-clause-none c = entity-goes_on c.args.schema.now c.in-Some.entity.0 _ _ _ _ c.in-Some.ensures.some
