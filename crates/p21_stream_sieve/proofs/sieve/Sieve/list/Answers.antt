use Rattle.p21_stream_sieve.proofs.SieveTaking.{lists-one}
use Rattle.p21_stream_sieve.proofs.sieve.Sieve.list.Goals as goal
use Rattle.std.proofs.Common.{ℕ, refl, subst, true}
use Rattle.std.specs.BTreeSet.{Updates}
use Rattle.std.specs.Ordering.{nat_cmp}

pub returns-clause-ok : goal.returns-clause-ok
returns-clause-ok c =
    lists-one c.args.self.now c.args.name c.args.fault
    (record { kept = c.args.self.now.kept; refusals = c.push.new.self; names = c.insert.new.self }) refl c.in-Ok.ensures.items
    (subst (λ (n : ℕ). Updates nat_cmp c.args.self.now.names c.insert.new.self n true) c.name.view_is c.in-Ok-insert.ensures.updates)
