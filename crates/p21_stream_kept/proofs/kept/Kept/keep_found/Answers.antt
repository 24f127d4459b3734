use Rattle.std.proofs.Common.{◌≡◌, ◌+◌, ◌<◌, ◌≤◌, ◌∷◌, ℕ, List, true, ap, length, map, subst, sym, Ok, Err, arith}
use Rattle.std.proofs.lemmas.List.{length-map}
use Rattle.std.specs.List.Sorted.{IsPermutation}
use Rattle.std.specs.Prelude.{Contains}
use Rattle.p21_spec_laws.specs.Keeping.{Kept}
use Rattle.p21_spec_laws.specs.Stored.{StoredEntry, kept_text}
use Rattle.p21_spec_laws.specs.Waiting.{Reference}
use Rattle.p21_spec_exchange.specs.Statement.{instance}
use Rattle.p21_mapping.specs.Checked.{needs_view}
use Rattle.p21_mapping_values.specs.TypedView.{ids_view, need_view}
use Rattle.p21_stream_statements.specs.declared.fault.Fault.TheVariants.{CanonicalTooLong}
use Rattle.p21_stream_kept.proofs.Dropping.{looked, took-dropped}
use Rattle.p21_stream_kept.proofs.Finding.{found-named, named-kept, took-found}
use Rattle.p21_stream_kept.proofs.Following.{follows-few, follows-section}
use Rattle.p21_stream_kept.proofs.Instances.{refused-instance, stored-names}
use Rattle.p21_stream_kept.specs.Inside.{kept_of, references_of, stored_in}
use Rattle.p21_stream_kept.specs.Steps.{FoundGives}
use Rattle.p21_stream_kept.specs.KeptInstances.{are_equal, instances_of, lines_kept}
use Rattle.p21_stream_kept.proofs.kept.Kept.keep_found.Goals as goal

pub invariant_of-self-in_default-push : goal.invariant_of-self-in_default-push
invariant_of-self-in_default-push c =
    let last : c.last-section.result + 1 ≡ length c.self.inside.sections = c.last-section.ensures in
    record {
      memberships = c.push.ensures.memberships;
      sections =
          c.push.ensures.sections (length c.self.inside.sections) (omega (arith, last)) c.self.invariant.sections;
      named =
          named-kept (lines_kept c.self.inside.stored.instances) (lines_kept c.push.new.self.instances) c.push.ensures.lines
          (instances_of c.self.inside.stored.instances) (instances_of c.push.new.self.instances) c.args.found.now.name
          c.args.found.now.line.now (found-named c.args.schema.now c.args.found.now.name c.requires.found.record_
          (ids_view c.args.found.now.entities.now) (needs_view c.args.found.now.needs.now) c.args.found.now.line.now c.requires.found.found)
          c.self.invariant.named c.push.ensures.named;
      counted = c.self.invariant.counted;
      looked = c.add.ensures.looked;
      patient =
          subst (λ (due : ℕ). c.self.inside.references ≤ due) (sym c.add.ensures.due) c.self.invariant.patient;
    }

pub invariant_of-self-2 : goal.invariant_of-self-2
invariant_of-self-2 c =
    let last : c.last-section.result + 1 ≡ length c.self.inside.sections = c.last-section.ensures in
    record {
      memberships = c.push.ensures.memberships;
      sections =
          c.push.ensures.sections (length c.self.inside.sections) (omega (arith, last)) c.self.invariant.sections;
      named =
          named-kept (lines_kept c.self.inside.stored.instances) (lines_kept c.push.new.self.instances) c.push.ensures.lines
          (instances_of c.self.inside.stored.instances) (instances_of c.push.new.self.instances) c.args.found.now.name
          c.args.found.now.line.now (found-named c.args.schema.now c.args.found.now.name c.requires.found.record_
          (ids_view c.args.found.now.entities.now) (needs_view c.args.found.now.needs.now) c.args.found.now.line.now c.requires.found.found)
          c.self.invariant.named c.push.ensures.named;
      counted = let fits = c.fits_limits.ensures.fits c.if-not-fits_limits.false in
          omega (arith, fits);
      looked = c.look_again.ensures.looked;
      patient = c.look_again.ensures.ahead;
    }

pub invariant_of-self-in_default-look_again : goal.invariant_of-self-in_default-look_again
invariant_of-self-in_default-look_again c =
    let last : c.last-section.result + 1 ≡ length c.self.inside.sections = c.last-section.ensures in
    record {
      memberships = c.push.ensures.memberships;
      sections =
          c.push.ensures.sections (length c.self.inside.sections) (omega (arith, last)) c.self.invariant.sections;
      named =
          named-kept (lines_kept c.self.inside.stored.instances) (lines_kept c.push.new.self.instances) c.push.ensures.lines
          (instances_of c.self.inside.stored.instances) (instances_of c.push.new.self.instances) c.args.found.now.name
          c.args.found.now.line.now (found-named c.args.schema.now c.args.found.now.name c.requires.found.record_
          (ids_view c.args.found.now.entities.now) (needs_view c.args.found.now.needs.now) c.args.found.now.line.now c.requires.found.found)
          c.self.invariant.named c.push.ensures.named;
      counted = let fits = c.fits_limits.ensures.fits c.if-not-fits_limits.false in
          omega (arith, fits);
      looked = c.look_again.ensures.looked;
      patient = c.look_again.ensures.ahead;
    }

pub last-section-requires : goal.last-section-requires
last-section-requires c = subst (λ (k : Kept). 0 < length k.headings) (sym c.self.view_is)
    (follows-section c.args.schema.now c.args.limits c.args.self.now c.args.found.now.name c.requires.found.record_
    c.requires.found.follows)

pub push-requires-clause-another : goal.push-requires-clause-another
push-requires-clause-another c =
    let P : List ℕ → Type 0 = λ names. Contains names c.args.found.now.name in
    λ among. c.requires.another (subst (λ (k : Kept). P (map (λ (x : StoredEntry). x.name) k.stored)) c.self.view_is
    (subst P (sym (stored-names c.self.inside.stored.memberships (instances_of c.self.inside.stored.instances))) among))

pub overflow_add-self-3 : goal.overflow_add-self-3
overflow_add-self-3 c =
    let is = c.requires.found.found in
    let needs = length-map c.args.found.now.needs.now need_view in
    let few = follows-few c.args.schema.now c.args.limits c.args.self.now c.args.found.now.name c.requires.found.record_
    c.requires.found.follows is.meaning (needs_view c.args.found.now.needs.now) is.meant in
    let same = ap (λ (k : Kept). k.references) c.self.view_is in
    omega (arith, needs, few, same)

pub returns-then-not-fits_limits-clause-gives : goal.returns-then-not-fits_limits-clause-gives
returns-then-not-fits_limits-clause-gives c =
    let old : Kept = kept_of c.self.inside in
    let F : Kept → Type 0 = λ k. FoundGives c.args.schema.now c.args.limits k c.args.found.now.name (ids_view c.args.found.now.entities.now)
    (needs_view c.args.found.now.needs.now) c.args.found.now.line.now (Err CanonicalTooLong) k in
    subst F c.self.view_is (λ record_ is. refused-instance c.args.schema.now c.args.limits old old c.args.found.now.name record_
    c.args.found.now.line.now is.printed (λ room.
    let passes : c.fits_limits.result ≡ true = c.fits_limits.ensures.decides.1 room in
    let fails = c.if-not-fits_limits.true in
    cc))

pub returns-clause-gives : goal.returns-clause-gives
returns-clause-gives c =
    let s = c.args.schema.now in
    let old : Kept = kept_of c.self.inside in
    let entities = ids_view c.args.found.now.entities.now in
    let needs = needs_view c.args.found.now.needs.now in
    let line = c.args.found.now.line.now in
    let stored : List StoredEntry = stored_in c.push.new.self in
    let mid : List Reference = references_of c.add.new.self.references.items in
    let left : List Reference = references_of c.look_again.new.self.references.items in
    let counted = ap (λ n. old.references + n) (sym (length-map c.args.found.now.needs.now need_view)) in
    let kept : Kept = record old {
      lines = lines_kept c.push.new.self.instances;
      equal = are_equal c.push.new.self.instances;
      stored =
          stored;
      waiting = mid;
      references = old.references + length c.args.found.now.needs.now;
      bytes = old.bytes + length line;
      framing =
          old.framing + 1;
    } in
    let N : Kept → Type 0 = λ k. Contains (map (λ (x : StoredEntry). x.name) k.stored) c.args.found.now.name → ⊥ in
    let none : N old = subst N (sym c.self.view_is) c.requires.another in
    let permuted : IsPermutation (record {
      name = c.args.found.now.name;
      section = c.last-section.result;
      entities = entities;
      text =
          kept_text old.lines line;
    } ∷ old.stored) stored = c.in-Ok-push.ensures.ok in
    let last : c.last-section.result + 1 ≡ length old.headings = c.last-section.ensures in
    let looks = looked s stored (old.references + length c.args.found.now.needs.now) c.add.new.self.due c.add.new.self.looked
    c.add.new.self.references.items c.look_again.new.self.references.items c.look_again.ensures.early c.look_again.ensures.together
    c.look_again.ensures.left in
    let new : Kept = record kept { waiting = left } in
    let F : Kept → Type 0 = λ k. FoundGives s c.args.limits k c.args.found.now.name entities needs line (Ok tt) new in
    subst F c.self.view_is (λ record_ is.
    took-dropped s c.args.limits old kept left (instance c.args.found.now.name record_) looks
    (took-found s c.args.limits old kept c.args.found.now.name record_ entities needs line is none mid c.in-Ok.ensures.ok
    c.last-section.result last stored permuted (are_equal c.push.new.self.instances) c.in-Ok-push.ensures.equal
    (c.fits_limits.ensures.decides.0 c.if-not-fits_limits.false)
    (λ i. record old {
      lines = c.push.ensures.lines i;
      equal = are_equal c.push.new.self.instances;
      stored = stored;
      waiting =
          mid;
      references = counted i;
      bytes = old.bytes + length line;
      framing = old.framing + 1;
    })))
