use Rattle.p21_shorter_instances.proofs.Leaving.{ok-to}
use Rattle.p21_shorter_instances.proofs.Stepping.{step-behind}
use Rattle.p21_shorter_instances.proofs.places.append_place.Goals as goal

pub returns-clause-some : goal.returns-clause-some
returns-clause-some c =
    ok-to _ (λ rest. step-behind c.args.schema.now c.args.step.now c.args.bytes.now c.behind_separators.result.now rest.now _ _
    c.behind_separators.ensures) c.append_value.ensures.some
