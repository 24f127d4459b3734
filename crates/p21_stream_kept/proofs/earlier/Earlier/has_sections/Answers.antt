use Rattle.std.proofs.Common.{◌<◌, length, arith, inl, inr, refl, subst, sym}
use Rattle.std.proofs.lemmas.Bool.Decides.{leb_tells}
use Rattle.std.specs.Prelude.{Contains}
use Rattle.p21_spec_basics.proofs.Members.{Each-at}
use Rattle.p21_spec_laws.specs.Beside.{IsInSameSection}
use Rattle.p21_spec_laws.specs.Stored.{Earlier, StoredEntry}
use Rattle.p21_stream_kept.proofs.ByMembership.{stored-found}
use Rattle.p21_stream_kept.proofs.EarlierLemmas.{name-stored, told-next}
use Rattle.p21_stream_kept.specs.Inside.{stored_of}
use Rattle.p21_stream_store.specs.Memberships.{Membership, membership_of}
use Rattle.p21_stream_store.specs.StoredInstance.{instance_names}
use Rattle.p21_stream_kept.proofs.earlier.Earlier.has_sections.Goals as goal

pub returns-in_default : goal.returns-in_default
returns-in_default c = λ headings have sections. (
  λ yes y at. elim (leb_tells c.loop-name.least y.name) [
    | inr front ↦ c.loop-name.invariant headings have sections y at front.1
    | inl from ↦
        let own = subst (λ (e : Earlier). Contains e.stored y) (sym c.self.view_is) at in
        absurd (c.in_default.ensures.none refl y.name from.1 (name-stored c.self.inside.memberships c.self.inside.instances y own))
  ],
  λ all. refl,
)

pub has_section-requires-clause-own : goal.has_section-requires-clause-own
has_section-requires-clause-own c =
    subst (λ (e : Earlier). c.get-own.result.0 < length e.headings) c.self.view_is
    (Each-at (λ (m : Membership). m.section < length c.self.inside.sections) c.self.inside.memberships c.in-Some.membership
    (membership_of c.get-own.result.0 c.get-own.result.1.now) c.self.invariant.sections c.get-own.ensures)

pub has_section-requires-clause-stored : goal.has_section-requires-clause-stored
has_section-requires-clause-stored c =
    let (text, among) = c.in-Some.ensures.some in
    let own = membership_of c.get-own.result.0 c.get-own.result.1.now in (
      own.entities,
      text,
      subst (λ (e : Earlier). Contains e.stored (record {
        name = c.in-Some.name;
        section = c.get-own.result.0;
        entities =
            own.entities;
        text = text;
      })) c.self.view_is
          (stored-found c.self.inside.memberships c.self.inside.instances
          (record { name = c.in-Some.name; membership = c.in-Some.membership; text = text }) own among c.get-own.ensures),
    )

pub returns-then-not-has_section : goal.returns-then-not-has_section
returns-then-not-has_section c = λ headings have sections. (
  λ yes. cc,
  λ all.
      let (text, among) = c.in-Some.ensures.some in
      let own = membership_of c.get-own.result.0 c.get-own.result.1.now in
      let x : StoredEntry = record { name = c.in-Some.name; section = c.get-own.result.0; entities = own.entities; text = text } in
      let at = subst (λ (e : Earlier). Contains e.stored x) c.self.view_is
      (stored-found c.self.inside.memberships c.self.inside.instances
      (record { name = c.in-Some.name; membership = c.in-Some.membership; text = text }) own among c.get-own.ensures) in
      let passes = (c.has_section.ensures headings have sections x at refl).1 (all x at) in
      let fails = c.if-not-has_section.true in
      cc,
)

pub returns-in_default-checked_add : goal.returns-in_default-checked_add
returns-in_default-checked_add c = λ headings have sections. (
  λ yes y at.
      let names = instance_names c.self.inside.instances in
      let among : (z : StoredEntry) → Contains c.args.self.now.stored z → Contains names z.name =
      λ z there. name-stored c.self.inside.memberships c.self.inside.instances z
      (subst (λ (e : Earlier). Contains e.stored z) (sym c.self.view_is) there) in
      let fits = c.in-Some.ensures.fits y.name (among y at) in
      told-next (λ z. IsInSameSection c.args.self.now headings (stored_of c.args.memberships.now c.args.names.now) z) names
      c.args.self.now.stored among c.loop-name.least c.in-Some.name (c.loop-name.invariant headings have sections)
      c.in-Some.ensures.between
      (λ z there same. (c.has_section.ensures headings have sections z there same).0 c.if-not-has_section.false) y at
      (omega (arith, fits, c.in_default-checked_add.ensures)),
  λ all. refl,
)

pub loop-name-preserved : goal.loop-name-preserved
loop-name-preserved c headings have sections y at below =
    let names = instance_names c.self.inside.instances in
    let among : (z : StoredEntry) → Contains c.args.self.now.stored z → Contains names z.name =
    λ z there. name-stored c.self.inside.memberships c.self.inside.instances z
    (subst (λ (e : Earlier). Contains e.stored z) (sym c.self.view_is) there) in
    told-next (λ z. IsInSameSection c.args.self.now headings (stored_of c.args.memberships.now c.args.names.now) z) names
    c.args.self.now.stored among c.loop-name.least c.in-Some.name (c.loop-name.invariant headings have sections)
    c.in-Some.ensures.between
    (λ z there same. (c.has_section.ensures headings have sections z there same).0 c.if-not-has_section.false) y at
    (omega (arith, below, c.in-Some-checked_add.ensures))
