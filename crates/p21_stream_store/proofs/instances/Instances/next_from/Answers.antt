use Rattle.std.proofs.Common.{◌<◌, ◌≤◌, ◌^◌, ℕ, List, IfSome, IsNone, subst}
use Rattle.std.specs.List.{Contains}
use Rattle.p21_stream_store.specs.StoredInstance.{StoredInstance, instance_names}
use Rattle.p21_stream_store.proofs.instances.Instances.next_from.Goals as goal

pub returns-clause-between : goal.returns-clause-between
returns-clause-between c =
    subst (λ (all : List StoredInstance). IfSome c.next_from.result
    (λ found. (other : ℕ) → c.args.least ≤ other → other < found.0 → Contains (instance_names all) other → ⊥)) c.self.view_is
    c.next_from.ensures.between

pub returns-clause-none : goal.returns-clause-none
returns-clause-none c =
    subst (λ (all : List StoredInstance). IsNone c.next_from.result → (other : ℕ) → c.args.least ≤ other
    → Contains (instance_names all) other → ⊥) c.self.view_is c.next_from.ensures.none

pub returns-clause-fits : goal.returns-clause-fits
returns-clause-fits c = subst (λ (all : List StoredInstance). (other : ℕ) → Contains (instance_names all) other → other < 2 ^ 64)
    c.self.view_is c.next_from.ensures.fits
