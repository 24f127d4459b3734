use Rattle.std.proofs.Common.{sym, subst, ◌≤◌}
use Rattle.std.specs.Prelude.{Contains, ℕ}
use Rattle.p21_stream_output.specs.Output.{Output}
use Rattle.p21_stream_store.specs.StoredInstance.{instance_names}
use Rattle.p21_stream_output.proofs.accepted.Accepted.first_from.Goals as goal

pub returns-in_default-clause-none : goal.returns-in_default-clause-none
returns-in_default-clause-none c none other from among =
    let Among : Output → Type 0 = λ o. Contains (instance_names o.kept) other in
    c.in_default.ensures.none none other (subst (λ (n : ℕ). n ≤ other) (sym c.least.view_is) from) (subst Among (sym c.self.view_is) among)

pub returns-clause-between : goal.returns-clause-between
returns-clause-between c other from below among =
    let Among : Output → Type 0 = λ o. Contains (instance_names o.kept) other in
    c.in-Some.ensures.between other (subst (λ (n : ℕ). n ≤ other) (sym c.least.view_is) from) below (subst Among (sym c.self.view_is) among)
