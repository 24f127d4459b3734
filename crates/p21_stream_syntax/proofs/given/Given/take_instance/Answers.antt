use Rattle.std.proofs.Common.{◌≡◌, ℕ, Contains, Ok, subst, sym, true}
use Rattle.p21_grammar_tree.specs.View.{record_view}
use Rattle.p21_spec_exchange.specs.Statement.{instance}
use Rattle.p21_stream_store.specs.NamedMemberships.{without_text}
use Rattle.p21_stream_store.specs.StoredInstance.{instance_names}
use Rattle.p21_stream_syntax.proofs.Names.{name-added, name-counted}
use Rattle.p21_stream_syntax.proofs.RefusedAlone.{instance-refuses}
use Rattle.p21_stream_syntax.proofs.Taking.{instance-again, took-instance}
use Rattle.p21_stream_syntax.specs.Given.{Kept, Takes, kept_of}
use Rattle.p21_spec_file.specs.Reference.{record_references}
use Rattle.p21_stream_syntax.specs.Waiting.{Adds, claims_in, claims_of}
use Rattle.p21_stream_syntax.proofs.given.Given.take_instance.Goals as goal

pub returns-then-has_name-clause-gives : goal.returns-then-has_name-clause-gives
returns-then-has_name-clause-gives c =
    let old : Kept = kept_of c.args.self.now in
    instance-again old old c.args.name (record_view c.args.of.now)
    (subst (Contains old.names) c.name.view_is (c.has_name.ensures.0 c.if-has_name.true))

pub returns-clause-gives : goal.returns-clause-gives
returns-clause-gives c =
    let old : Kept = kept_of c.args.self.now in
    let n = c.name.inside.0 in
    let x = without_text n 0 in
    let new : Kept = record old {
      names = instance_names c.push.new.self;
      waiting =
          claims_in c.look_again.new.self.references.items;
      counts = c.add-2.new.self;
    } in
    subst (λ (m : ℕ). Takes old (instance m (record_view c.args.of.now)) (Ok tt) new) c.name.view_is
    (took-instance old n (record_view c.args.of.now) (instance_names c.push.new.self) (claims_in c.look_again.new.self.references.items)
    (claims_in c.add.new.self.references.items) c.add-2.new.self
    (name-added x c.args.self.now.names c.push.new.self c.in-Ok.ensures.ok)
    (name-counted x c.args.self.now.names c.push.new.self c.in-Ok.ensures.ok)
    (λ had.
    let passes : c.has_name.result ≡ true = c.has_name.ensures.1 had in
    let fails = c.if-has_name.false in
    cc)
    (subst (λ (m : ℕ). Adds (instance_names c.push.new.self) (claims_of m (record_references (record_view c.args.of.now))) old.waiting
    (claims_in c.add.new.self.references.items)) (sym c.name.view_is) c.in-Ok-add.ensures) c.look_again.ensures c.in-Ok-add-2.ensures)

pub returns-then-has_name-clause-refuses : goal.returns-then-has_name-clause-refuses
returns-then-has_name-clause-refuses c =
    let old : Kept = kept_of c.args.self.now in
    instance-refuses old c.args.name (record_view c.args.of.now)
    (subst (Contains old.names) c.name.view_is (c.has_name.ensures.0 c.if-has_name.true))
