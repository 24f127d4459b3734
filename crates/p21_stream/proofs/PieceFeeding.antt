-- A piece, by the histories that a session stands for.
use Rattle.std.proofs.Common.{◌≡◌, ◌≢◌, ◌<◌, ◌^◌, ◌⊎◌, ℕ, List, [], ◌++◌, Option, Some, None, Ok, Err, inl, inr, refl, sym, ap, subst, ◌∙◌, arith}
use Rattle.p21_spec_basics.specs.Limits.{Limits}
use Rattle.p21_spec_laws.proofs.Keeps.{keeps-at_start}
use Rattle.p21_spec_laws.specs.Keeping.{Keeps, Kept, nothing_kept}
use Rattle.p21_spec_file.specs.Held.{IsHeld}
use Rattle.p21_spec_schema.specs.Schema.{Schema}
use Rattle.p21_stream_statements.specs.Place.{HasPlace, place_behind}
use Rattle.p21_stream_statements.specs.Source.{IsOfBytes}
use Rattle.p21_stream_statements.specs.declared.fault.Fault.{Fault}
use Rattle.p21_stream_statements.specs.declared.fault.Fault.TheVariants.{Token, Grammar, Check, SchemaName, SectionTwice, DuplicateName, CanonicalTooLong, Dangling, WrongTarget, NoMemory, Read, Write}
use Rattle.p21_stream_statements.specs.declared.refusal.Refusal.{Refusal}
use Rattle.p21_stream_statements.specs.StatementReader as statements
use Rattle.p21_stream_statements.specs.StatementReader.{nothing_read}
use Rattle.p21_stream_kept.specs.Steps.{StepKeepsBound}
use Rattle.p21_stream.proofs.Checking.{checks-statements}
use Rattle.p21_stream.proofs.Going.{held-while_live}
use Rattle.p21_stream.proofs.Within.{references-within}
use Rattle.p21_stream.specs.Bounds.{IsBounded, IsNothing}
use Rattle.p21_stream.specs.Held.{SessionHeld}
use Rattle.p21_stream.specs.Histories.{FeedChecks, FeedGives, FeedNeedsNoMemory, FeedPlaces, HoldsFor, Stands, nothing_taken}
use Rattle.p21_stream.specs.Session.{IsLive}
use Rattle.p21_stream.specs.Walk.{EndsBy, IsUnderWay, NeedsNoMemory, PlacesByte, ReadsWhole}

-- a fault is want of memory, or it is another one
memory-or_other : (fault : Fault) → (fault ≡ NoMemory) ⊎ (fault ≢ NoMemory)
memory-or_other (Token fault) = inr (λ is. cc)
memory-or_other (Grammar fault) = inr (λ is. cc)
memory-or_other (Check fault) = inr (λ is. cc)
memory-or_other SchemaName = inr (λ is. cc)
memory-or_other SectionTwice = inr (λ is. cc)
memory-or_other DuplicateName = inr (λ is. cc)
memory-or_other CanonicalTooLong = inr (λ is. cc)
memory-or_other Dangling = inr (λ is. cc)
memory-or_other WrongTarget = inr (λ is. cc)
memory-or_other NoMemory = inl refl
memory-or_other Read = inr (λ is. cc)
memory-or_other Write = inr (λ is. cc)

none-some : (refusal : Refusal) (o : Option Refusal) → None ≡ o → o ≡ Some refusal → ⊥
none-some refusal o none some = let clash : None ≡ Some refusal = none ∙ some in cc

-- ---- nothing taken

pub nothing-is : (kept new : Kept) → new ≡ kept → IsNothing kept → IsNothing new
nothing-is kept new same nothing = subst IsNothing (sym same) nothing

module _ (s : Schema) (limits : Limits) (held : statements.Held) (kept : Kept) (refused : Option Refusal)
    (live : statements.IsLive held nothing_read) (counted : limits.file_source < 2 ^ 64)
    (are : statements.limits_of held ≡ (limits.record_source, limits.file_source)) (nothing : IsNothing kept) (none : refused ≡ None) where
  live-new : IsLive s limits held kept nothing_read
  live-new = record {
    reads = live;
    limits_are = are;
    keeps =
        subst (λ (k : Kept). Keeps s limits [] k) (sym nothing.1) (keeps-at_start s limits nothing.0);
  }

  pub stands-new : Stands (record { schema = s; limits = limits; statements = held; kept = kept; refused = refused }) nothing_taken
  unfolding Stands
  stands-new = (none, λ same. ([], live-new), λ refusal is. absurd (none-some refusal None refl is))

  pub bounded-new : IsBounded (record { schema = s; limits = limits; statements = held; kept = kept; refused = refused })
  bounded-new =
      let bytes : kept.bytes ≡ 0 = ap (λ (k : Kept). k.bytes) nothing.1 in
      let references : kept.references ≡ 0 = ap (λ (k : Kept). k.references) nothing.1 in
      record {
        counted = counted;
        limits_are = are;
        kept_within = omega (arith, bytes);
        needs_within = omega (arith, references);
        reads =
            λ same. (nothing_read, refl, live-new);
        of_bytes = λ r is. absurd (none-some r refused (sym none) is);
      }

-- ---- a piece that is read

-- no byte was seen, so any may come first
pub under-way : (s : Schema) (limits : Limits) (held : statements.Held) (kept : Kept) (was : Option Refusal) (piece : List ℕ)
    → IsBounded (record { schema = s; limits = limits; statements = held; kept = kept; refused = was }) → was ≡ None
    → IsUnderWay s limits held kept piece
under-way s limits held kept was piece bounded open_ =
    let (reading, none, live) = bounded.reads open_ in
    record {
      reading = reading;
      live = live;
      seen_at = subst (λ (o : Option ℕ). statements.IsSeenAt o piece 0) (sym none) tt;
      counted =
          bounded.counted;
    }

module _ (s : Schema) (limits : Limits) (held next : statements.Held) (kept after : Kept) (piece : List ℕ) (was : Option Refusal)
    (open_ : was ≡ None) (gives : ReadsWhole s limits held kept piece next after) where
  pub fed-whole : FeedGives (record { schema = s; limits = limits; statements = held; kept = kept; refused = was }) piece (Ok tt)
      (record { schema = s; limits = limits; statements = next; kept = after; refused = was })
  unfolding Stands
  fed-whole history stands =
      let none : history.refusal ≡ None = sym stands.0 ∙ open_ in
      let going = stands.1 none in (
        none,
        (
          stands.0,
          (λ _. gives (record { taken = history.taken; seen = None; given = going.0 }) going.1 tt),
          λ refusal is. absurd
              (none-some refusal history.refusal (sym none) is),
        ),
      )

  pub fed-checks : FeedChecks (record { schema = s; limits = limits; statements = held; kept = kept; refused = was }) piece (Ok tt)
  unfolding Stands
  fed-checks history stands =
      let going = stands.1 (sym stands.0 ∙ open_) in
      let whole = gives (record { taken = history.taken; seen = None; given = going.0 }) going.1 tt in
      checks-statements s limits next after (record { taken = history.taken ++ piece; seen = None; given = whole.0 }) whole.1

  pub bounded-whole : StepKeepsBound limits kept after → statements.limits_of next ≡ statements.limits_of held
      → IsBounded (record { schema = s; limits = limits; statements = held; kept = kept; refused = was })
      → IsBounded (record { schema = s; limits = limits; statements = next; kept = after; refused = was })
  bounded-whole bound limits_same bounded =
      let way = under-way s limits held kept was piece bounded open_ in
      let whole = gives way.reading way.live way.seen_at in
      let end : statements.StatementHistory = record { taken = way.reading.taken ++ piece; seen = None; given = whole.0 } in
      record {
        counted = bounded.counted;
        limits_are = limits_same ∙ bounded.limits_are;
        kept_within = bound bounded.kept_within;
        needs_within = references-within s limits next after end whole.1;
        reads = λ _. (end, refl, whole.1);
        of_bytes = bounded.of_bytes;
      }

-- ---- a piece that is refused

-- a refusal that was answered before is answered again
pub fed-again : (held : SessionHeld) (piece : List ℕ) (refusal : Refusal) → held.refused ≡ Some refusal
    → FeedGives held piece (Err refusal) held
unfolding Stands
fed-again held piece refusal was history stands none = absurd (none-some refusal held.refused (sym (stands.0 ∙ none)) was)

pub fed-refused : (s : Schema) (limits : Limits) (held next : statements.Held) (kept end : Kept) (piece : List ℕ) (was : Option Refusal)
    (refusal : Refusal) → EndsBy s limits held kept piece refusal
    → FeedGives (record { schema = s; limits = limits; statements = held; kept = kept; refused = was }) piece (Err refusal)
    (record { schema = s; limits = limits; statements = next; kept = end; refused = Some refusal })
unfolding Stands
fed-refused s limits held next kept end piece was refusal ends history stands none =
    let going = stands.1 none in
    elim (memory-or_other refusal.fault) [
      | inl memory ↦ record {
        count = 0;
        within = omega arith;
        dead = λ other. absurd (other memory);
        stands = (
          refl,
          (λ clash. absurd (none-some refusal None refl (sym clash))),
          λ r is other. absurd
              (other (ap (λ (o : Option Refusal). elim o [ None ↦ NoMemory | Some x ↦ x.fault ]) (sym is) ∙ memory)),
        );
      }
      | inr other ↦ (let d = ends other (record { taken = history.taken; seen = None; given = going.0 }) going.1 tt in record {
        count = d.upto;
        within = d.within;
        dead = λ _. d.dead;
        stands = (refl, (λ clash. absurd (none-some refusal None refl (sym clash))), λ r is _. d.dead);
      })
    ]

-- a byte that the walk refuses the session refuses
pub fed-places : (s : Schema) (limits : Limits) (held next : statements.Held) (kept end : Kept) (piece : List ℕ) (was : Option Refusal)
    (refusal : Refusal) → PlacesByte s limits held kept piece next refusal
    → FeedPlaces (record { schema = s; limits = limits; statements = held; kept = kept; refused = was }) piece (Err refusal)
    (record { schema = s; limits = limits; statements = next; kept = end; refused = Some refusal })
unfolding Stands
fed-places s limits held next kept end piece was refusal has history stands none =
    let going = stands.1 none in
    subst (λ (l : ℕ × ℕ). HasPlace l history.taken piece refusal.fault (place_behind next)) going.1.limits_are
    (has (record { taken = history.taken; seen = None; given = going.0 }) going.1 tt)

pub again-places : (held : SessionHeld) (piece : List ℕ) (refusal : Refusal) → held.refused ≡ Some refusal
    → FeedPlaces held piece (Err refusal) held
unfolding Stands
again-places held piece refusal was history stands none = absurd (none-some refusal held.refused (sym (stands.0 ∙ none)) was)

pub bounded-refused : (s : Schema) (limits : Limits) (held next : statements.Held) (kept end : Kept) (was : Option Refusal)
    (refusal : Refusal) → end ≡ nothing_kept → statements.limits_of next ≡ statements.limits_of held → IsOfBytes refusal.fault
    → IsBounded (record { schema = s; limits = limits; statements = held; kept = kept; refused = was })
    → IsBounded (record { schema = s; limits = limits; statements = next; kept = end; refused = Some refusal })
bounded-refused s limits held next kept end was refusal nothing same of bounded =
    let bytes : end.bytes ≡ 0 = ap (λ (k : Kept). k.bytes) nothing in
    let references : end.references ≡ 0 = ap (λ (k : Kept). k.references) nothing in
    record {
      counted = bounded.counted;
      limits_are = same ∙ bounded.limits_are;
      kept_within = omega (arith, bytes);
      needs_within = omega (arith, references);
      reads = λ clash. absurd (none-some refusal None refl (sym clash));
      of_bytes = λ r is. let one : refusal ≡ r = cc in subst (λ (x : Refusal). IsOfBytes x.fault) one of;
    }

-- ---- separators

pub fed-quiet : (s : Schema) (limits : Limits) (held : statements.Held) (kept : Kept) (piece : List ℕ) (was : Option Refusal)
    (refusal : Refusal) → NeedsNoMemory s limits held kept piece refusal
    → FeedNeedsNoMemory (record { schema = s; limits = limits; statements = held; kept = kept; refused = was }) piece (Err refusal)
unfolding Stands
fed-quiet s limits held kept piece was refusal needs history stands none pending are = let going = stands.1 none in
    needs (record { taken = history.taken; seen = None; given = going.0 }) going.1 tt pending are

pub again-quiet : (held : SessionHeld) (piece : List ℕ) (refusal : Refusal) → held.refused ≡ Some refusal
    → FeedNeedsNoMemory held piece (Err refusal)
unfolding Stands
again-quiet held piece refusal was history stands none pending are = absurd (none-some refusal held.refused (sym (stands.0 ∙ none)) was)

-- ---- what is held

pub holds : (held : SessionHeld) (pending depth kept needs : ℕ)
    → ((reading : statements.StatementHistory) → statements.IsLive held.statements reading
    → statements.HasOpenStatement reading pending depth) → kept ≡ held.kept.bytes → needs ≡ held.kept.references
    → HoldsFor held (record { pending = pending; depth = depth; kept = kept; needs = needs })
unfolding Stands
holds held pending depth kept needs opens kept_is needs_are history stands none =
    let going = stands.1 none in
    let reading : statements.StatementHistory = record { taken = history.taken; seen = None; given = going.0 } in
    let own : IsHeld held.schema history.taken (record
    { pending = pending; depth = depth; kept = held.kept.bytes; needs = held.kept.references }) =
    held-while_live held.schema held.limits held.statements held.kept reading going.1 pending depth (opens reading going.1.reads) in
    subst (λ (n : ℕ). IsHeld held.schema history.taken (record { pending = pending; depth = depth; kept = kept; needs = n }))
    (sym needs_are)
    (subst (λ (n : ℕ). IsHeld held.schema history.taken
    (record { pending = pending; depth = depth; kept = n; needs = held.kept.references })) (sym kept_is) own)
