use Rattle.std.proofs.Common.{subst, sym}
use Rattle.p21_shorter_instances.specs.ExternalSet.{AreExternalSets}
use Rattle.p21_shorter_instances.proofs.taker.Taker.new.Goals as goal

pub returns : goal.returns
returns c = λ s. record { plan = c.new-plan.ensures s; sets = subst (AreExternalSets s) (sym c.new-sets.ensures) tt }
