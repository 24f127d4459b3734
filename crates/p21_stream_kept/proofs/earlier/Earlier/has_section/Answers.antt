use Rattle.std.proofs.Common.{arith, ◌≡◌, ◌<◌, Some, length, refl, slice_get, subst, sym}
use Rattle.std.proofs.lemmas.Option.{slice_get_read, slice_get_within}
use Rattle.std.specs.Prelude.{◌↔◌, Contains, IsTrue}
use Rattle.p21_spec_basics.proofs.Members.{Each-at}
use Rattle.p21_spec_laws.specs.Beside.{IsInSameSection}
use Rattle.p21_spec_laws.specs.Stored.{Earlier, StoredEntry}
use Rattle.p21_stream_kept.proofs.EarlierLemmas.{has-number, none-tells, number-tells, section-tells}
use Rattle.p21_stream_kept.specs.Inside.{stored_of}
use Rattle.p21_stream_kept.specs.Sections.{HaveNumbers}
use Rattle.p21_stream_store.specs.Memberships.{Membership, membership_of}
use Rattle.p21_stream_kept.proofs.earlier.Earlier.has_section.Goals as goal

pub returns-in_default : goal.returns-in_default
returns-in_default c = λ headings have sections y at same. none-tells c.args.self.now headings c.args.memberships.now c.args.names.now
    c.args.name (c.in_default.ensures.none refl) y same

pub returns-in-Some-get : goal.returns-in-Some-get
returns-in-Some-get c = λ headings have sections.
    let (entities, text, at) = c.requires.stored in
    let (its_text, among) = c.in-Some.ensures.some in
    let its = membership_of c.get-its.result.0 c.get-its.result.1.now in
    let x : StoredEntry = record { name = c.args.name; section = c.args.own; entities = entities; text = text } in
    let own = subst (λ (e : Earlier). Contains e.stored x) (sym c.self.view_is) at in
    let within = subst (λ (e : Earlier). c.args.own < length e.headings) (sym c.self.view_is) c.requires.own in
    let numbered = subst (λ (e : Earlier). HaveNumbers e.headings headings c.args.numbers.now) (sym c.self.view_is) have in
    let numbers = c.args.numbers.now in
    let number = c.in-Some-get.number.now in
    let found : slice_get numbers c.get-its.result.0 ≡ Some number =
    slice_get_read numbers (length numbers) c.get-its.result.0 number refl c.in-Some-get.ensures.lookup.3.0
    c.in-Some-get.ensures.lookup.1 in
    subst (λ (e : Earlier). (y : StoredEntry) → Contains e.stored y → y.name ≡ c.args.name → IsTrue c.begin_alike.result
    ↔ IsInSameSection e headings (stored_of c.args.memberships.now c.args.names.now) y) c.self.view_is
    (section-tells c.self.inside.header.items c.self.inside.sections c.self.inside.memberships c.self.inside.instances headings
    c.args.memberships.now c.args.names.now c.self.invariant.once c.requires.once x own within c.in-Some.later its_text among
    its c.get-its.ensures (Each-at (λ (m : Membership). m.section < length headings) c.args.memberships.now c.in-Some.later its sections
    c.get-its.ensures) c.begin_alike.result
    (number-tells c.self.inside.sections headings numbers numbered c.get-its.result.0 number found c.begin_alike.result c.args.own
    c.begin_alike.ensures))

pub returns-in-None : goal.returns-in-None
returns-in-None c = λ headings have sections.
    let its = membership_of c.get-its.result.0 c.get-its.result.1.now in
    let (number, at) = has-number c.args.self.now.headings headings c.args.numbers.now have c.get-its.result.0
    (Each-at (λ (m : Membership). m.section < length headings) c.args.memberships.now c.in-Some.later its sections c.get-its.ensures) in
    let low = slice_get_within c.args.numbers.now c.get-its.result.0 number at in
    absurd (omega (arith, low, c.in-None.ensures.lookup))
