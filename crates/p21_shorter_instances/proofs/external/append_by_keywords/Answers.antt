use Rattle.std.proofs.Common.{refl, subst, sym}
use Rattle.p21_shorter_instances.specs.ExternalSet.{AreExternalSets}
use Rattle.p21_shorter_instances.proofs.Values.{needs-same}
use Rattle.p21_shorter_instances.proofs.external.append_by_keywords.Goals as goal
use Rattle.p21_values.proofs.Continuing.{continues-same}

pub append_by_set-requires : goal.append_by_set-requires
append_by_set-requires c = subst (AreExternalSets c.args.schema.now) (sym c.expect.ensures) c.set_ahead.ensures.sets

pub returns-in_default-clause-draft : goal.returns-in_default-clause-draft
returns-in_default-clause-draft c = continues-same _ _ refl

pub returns-in_default-clause-needs : goal.returns-in_default-clause-needs
returns-in_default-clause-needs c = needs-same _ _ refl

pub returns-in_default-found-clause-draft : goal.returns-in_default-found-clause-draft
returns-in_default-found-clause-draft c = continues-same _ _ refl

pub returns-in_default-found-clause-needs : goal.returns-in_default-found-clause-needs
returns-in_default-found-clause-needs c = needs-same _ _ refl
