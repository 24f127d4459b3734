use Rattle.std.proofs.Common.{ℕ, subst}
use Rattle.std.specs.Prelude.{◌↔◌, IsTrue, OnOk}
use Rattle.p21_spec_laws.specs.Stored.{IsAmongEarlier, kept_text}
use Rattle.p21_stream_kept.proofs.ByMembership.{named-pushed, stored-pushed}
use Rattle.p21_stream_kept.specs.KeptInstances.{are_equal, instances_of, lines_kept}
use Rattle.p21_stream_store.specs.Memberships.{membership_of}
use Rattle.p21_stream_kept.proofs.stored.Stored.push.Goals as goal

pub returns-clause-ok : goal.returns-clause-ok
returns-clause-ok c =
    stored-pushed c.args.self.now.memberships c.add.new.self (membership_of c.args.section c.args.found.now.entities.now) c.in-Ok.membership
    c.in-Ok.ensures.ok (instances_of c.args.self.now.instances) (instances_of c.push.new.self) c.requires.memberships
    c.args.found.now.name c.name.inside.0 c.name.view_is
    (kept_text (lines_kept c.args.self.now.instances) c.args.found.now.line.now) c.push.result c.push.ensures.ok

pub returns-clause-named : goal.returns-clause-named
returns-clause-named c = named-pushed (instances_of c.args.self.now.instances) (instances_of c.push.new.self) c.args.found.now.name
    c.name.inside.0 c.in-Ok.membership (kept_text (lines_kept c.args.self.now.instances) c.args.found.now.line.now) c.push.result
    c.push.ensures.ok c.push.ensures.err c.name.view_is

pub returns-clause-equal : goal.returns-clause-equal
returns-clause-equal c =
    subst (λ (n : ℕ). OnOk c.push.result (IsTrue (are_equal c.push.new.self)
    ↔ (IsTrue (are_equal c.args.self.now.instances) × IsAmongEarlier (lines_kept c.args.self.now.instances)
    (n, c.args.found.now.line.now)))) c.name.view_is c.push.ensures.equal
