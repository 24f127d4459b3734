use Rattle.std.proofs.Common.{take}
use Rattle.p21_spec_exchange.specs.Parameter.{more_tokens}
use Rattle.p21_spec_file.specs.ValueText.{with_commas}
use Rattle.p21_shorter_instances.specs.TakenParameters.{TakesSteps}
use Rattle.p21_shorter_instances.specs.TakenValues.{KeepsNeeds}
use Rattle.p21_values.specs.Canonical.{Continues}
use Rattle.p21_shorter_instances.proofs.places.append_others.Given as goal

-- the values of the steps so far are taken
abbrev pub invariant-loop-step : goal.invariant-loop-step
invariant-loop-step l = record {
  takes : TakesSteps l.schema more_tokens with_commas (take l.step-index l.steps) l.bytes l.rest l.fn.taken l.taken;
  draft : Continues l.fn.taken.draft l.taken.draft;
  needs : KeepsNeeds l.fn.taken.needs.items l.taken.needs.items;
}
