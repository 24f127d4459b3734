use Rattle.p21_shorter_tokens.proofs.Found.{some_to}
use Rattle.p21_shorter_instances.proofs.Steps.{ok_to, reduced_type-plain, reduced_type-same}
use Rattle.p21_shorter_instances.proofs.step.reduced_type.Goals as goal

pub returns-in-Plain : goal.returns-in-Plain
returns-in-Plain c =
    ok_to _ (λ found. some_to found (λ same. reduced_type-plain c.args.schema.now c.holds_together.ensures c.args.of.now _ _ c.in-Plain.is
    c.base.ensures c.requires same)) c.copied_type.ensures

pub returns-in_default : goal.returns-in_default
returns-in_default c = ok_to _ (λ found. some_to found (λ same. reduced_type-same c.args.schema.now c.args.of.now same c.requires))
    c.copied_type-in_default.ensures
