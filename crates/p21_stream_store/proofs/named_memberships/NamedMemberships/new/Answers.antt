use Rattle.std.proofs.Common.{◌++◌, ◌∙◌, List, ap, length, subst, sym}
use Rattle.std.specs.List.{Contains}
use Rattle.p21_spec_basics.proofs.Members.{Contains-none}
use Rattle.p21_stream_store.proofs.NamedMembershipLemmas.{none-noted}
use Rattle.p21_stream_store.specs.StoredInstance.{StoredInstance, instance_names}
use Rattle.p21_stream_store.proofs.named_memberships.NamedMemberships.new.Goals as goal

pub invariant_of-result : goal.invariant_of-result
invariant_of-result c = (
  ap (λ (l : List StoredInstance). length l) (sym (none-noted c.new.result (c.new.ensures 0))),
  λ name among.
      absurd (Contains-none name (subst (λ (l : List StoredInstance). Contains (instance_names l) name)
      (ap (λ (l : List StoredInstance). l ++ c.new-2.result) (none-noted c.new.result (c.new.ensures 0)) ∙ c.new-2.ensures) among)),
)

pub returns : goal.returns
returns c = ap (λ (l : List StoredInstance). l ++ c.new-2.result) (none-noted c.new.result (c.new.ensures 0)) ∙ c.new-2.ensures
