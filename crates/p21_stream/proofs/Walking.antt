-- A walk, token by token and piece by piece.
use Rattle.std.proofs.Common.{◌≡◌, ◌≤◌, ◌<◌, ◌+◌, ◌-◌, ◌^◌, ℕ, List, [], ◌∷◌, ◌++◌, length, take, drop, Option, Some, None, Result, Ok, Err, refl, sym, ap, subst, ◌∙◌, append_assoc, arith}
use Rattle.std.proofs.lemmas.List.{length-drop, take-append-drop}
use Rattle.std.specs.List.{flat_map}
use Rattle.p21_grammar.specs.Statements.{statement_of}
use Rattle.p21_grammar.specs.declared.event.Event.{Event}
use Rattle.p21_spec_basics.specs.Limits.{Limits}
use Rattle.p21_spec_exchange.specs.Pending.{IsPending}
use Rattle.p21_spec_exchange.specs.Statement.{Statement, statement_tokens}
use Rattle.p21_spec_exchange.specs.Structure.{AreFirstStatements}
use Rattle.p21_spec_file.specs.Accepted.{IsDead}
use Rattle.p21_spec_laws.specs.Keeping.{Keeps, Kept}
use Rattle.p21_spec_schema.specs.Schema.{Schema}
use Rattle.p21_spec_schema.specs.WellFormed.{IsWellFormed}
use Rattle.p21_stream.proofs.Going.{dead-by_statement, dead-by_step, live-by_piece, live-by_statement, live-by_token}
use Rattle.p21_stream_statements.proofs.Within.{given-few, source-within, statements-few}
use Rattle.p21_stream.specs.Bounds.{StaysWithin}
use Rattle.p21_stream.specs.Session.{IsLive, TakesOneToken}
use Rattle.p21_stream.specs.Walk.{EndsBy, EndsNoToken, IsDeadWithin, IsUnderWay, NeedsNoMemory, PlacesByte, ReadGives, ReadsOn, ReadsWhole, TakeGives, TakesMoreTokens}
use Rattle.p21_stream_kept.specs.Steps as kept_steps
use Rattle.p21_stream_kept.specs.Taking.{Follows}
use Rattle.p21_stream_statements.proofs.Pieces.{seen-first, within-on}
use Rattle.p21_stream_statements.specs.Place.{HasPlace, RefusesByteAt, place_behind}
use Rattle.p21_stream_statements.specs.StatementReader as statements
use Rattle.p21_stream_statements.specs.StatementReader.{StatementHistory, limits_of}
use Rattle.p21_stream_statements.specs.declared.fault.Fault.{Fault}
use Rattle.p21_stream_statements.specs.declared.fault.Fault.TheVariants as faults
use Rattle.p21_stream_statements.specs.declared.refusal.Refusal.{Refusal}

-- ---- what a piece gives, by what the rest gives

dead-on : (s : Schema) (limits : Limits) (reading on : StatementHistory) (piece : List ℕ) (count : ℕ)
    → on.taken ≡ reading.taken ++ take count piece → count ≤ length piece → IsDeadWithin s limits on (drop count piece)
    → IsDeadWithin s limits reading piece
dead-on s limits reading on piece count taken_are within d =
    let (upto_within, dead) = within-on reading on piece count (IsDead s limits) taken_are within d.upto d.within d.dead in
    record { upto = count + d.upto; within = upto_within; dead = dead }

-- a byte that is refused behind so many of a piece
refuses-on : (limits : ℕ × ℕ) (reading on : StatementHistory) (piece : List ℕ) (count place : ℕ)
    → on.taken ≡ reading.taken ++ take count piece → count ≤ length piece → RefusesByteAt limits on.taken (drop count piece) place
    → RefusesByteAt limits reading.taken piece place
refuses-on limits reading on piece count place taken_are within r =
    let below = r.within in
    let rest : length (drop count piece) ≡ length piece - count = length-drop count piece in
    let (_, here) = within-on reading on piece count (λ bytes. (place ≡ length bytes) × IsPending bytes r.open_bytes) taken_are within
    r.count (omega (arith, below)) (r.place_is, r.pending) in
    let same : count + (r.count + 1) ≡ (count + r.count) + 1 = omega arith in
    record {
      count = count + r.count;
      within = omega (arith, below, rest, within);
      place_is = here.0;
      open_bytes = r.open_bytes;
      pending = here.1;
      dead = λ s all record_is file_is. subst (λ (n : ℕ). IsDead s all (reading.taken ++ take n piece)) same
          (within-on reading on piece count (IsDead s all) taken_are within (r.count + 1) (omega (arith, below))
          (r.dead s all record_is file_is)).1;
    }

place-on : (limits : ℕ × ℕ) (reading on : StatementHistory) (piece : List ℕ) (count : ℕ) (fault : Fault) (place : ℕ)
    → on.taken ≡ reading.taken ++ take count piece → count ≤ length piece → HasPlace limits on.taken (drop count piece) fault place
    → HasPlace limits reading.taken piece fault place
place-on limits reading on piece count (faults.Token fault) place taken_are within has =
    λ of. refuses-on limits reading on piece count place taken_are within (has of)
place-on limits reading on piece count (faults.Grammar fault) place taken_are within has = tt
place-on limits reading on piece count (faults.Check fault) place taken_are within has = tt
place-on limits reading on piece count faults.SchemaName place taken_are within has = tt
place-on limits reading on piece count faults.SectionTwice place taken_are within has = tt
place-on limits reading on piece count faults.DuplicateName place taken_are within has = tt
place-on limits reading on piece count faults.CanonicalTooLong place taken_are within has = tt
place-on limits reading on piece count faults.Dangling place taken_are within has = tt
place-on limits reading on piece count faults.WrongTarget place taken_are within has = tt
place-on limits reading on piece count faults.NoMemory place taken_are within has = tt
place-on limits reading on piece count faults.Read place taken_are within has = tt
place-on limits reading on piece count faults.Write place taken_are within has = tt

-- ---- what stays

-- what holds of what is as before holds of what was
pub as-before : (P : statements.Held → Kept → Type 0) (held next : statements.Held) (kept after : Kept) → next ≡ held → after ≡ kept
    → P next after → P held kept
as-before P held next kept after statements_are kept_is given =
    subst (λ (k : Kept). P held k) kept_is (subst (λ (h : statements.Held). P h after) statements_are given)

-- so it is where no instance is taken straight from its bytes
pub as-untaken : (s : Schema) (limits : Limits) (P : statements.Held → Kept → Type 0) (held next : statements.Held) (kept after : Kept)
    (piece : List ℕ) (taken : Option ℕ) → taken ≡ None → TakeGives s limits held kept piece (Ok taken) next after → P next after
    → P held kept
as-untaken s limits P held next kept after piece taken none gives =
    let same : (next ≡ held) × (after ≡ kept) = subst (λ (o : Option ℕ). TakeGives s limits held kept piece (Ok o) next after) none gives in
    as-before P held next kept after same.0 same.1

pub way-untaken : (s : Schema) (limits : Limits) (held next : statements.Held) (kept after : Kept) (piece : List ℕ) (taken : Option ℕ)
    → taken ≡ None → TakeGives s limits held kept piece (Ok taken) next after → IsUnderWay s limits held kept piece
    → IsUnderWay s limits next after piece
way-untaken s limits held next kept after piece taken none gives =
    let same : (next ≡ held) × (after ≡ kept) = subst (λ (o : Option ℕ). TakeGives s limits held kept piece (Ok o) next after) none gives in
    as-before (λ h k. IsUnderWay s limits h k piece) next held after kept (sym same.0) (sym same.1)

pub stays-same : (limits : Limits) (kept : Kept) → StaysWithin limits kept kept
stays-same limits kept = (λ within. within, refl)

pub stays-on : (limits : Limits) (a b c : Kept) → StaysWithin limits a b → StaysWithin limits b c → StaysWithin limits a c
stays-on limits a b c first second = (λ within. second.0 (first.0 within), second.1 ∙ first.1)

-- what the statement reader answered
pub given-event : (held next : statements.Held) (piece : List ℕ) (answer : Option (ℕ × Option Event)) (count : ℕ)
    (event other : Option Event) → answer ≡ Some (count, event) → event ≡ other → statements.StepGives held piece (Ok answer) next
    → statements.StepGives held piece (Ok (Some (count, other))) next
given-event held next piece answer count event other is same gives =
    subst (λ (e : Option Event). statements.StepGives held piece (Ok (Some (count, e))) next) same
    (subst (λ (a : Option (ℕ × Option Event)). statements.StepGives held piece (Ok a) next) is gives)

module _ (s : Schema) (limits : Limits) where
  -- ---- a step

  more-tokens : (reading : StatementHistory) (tokens : ℕ) (piece : List ℕ) (count : ℕ) (next : statements.Held) (after : Kept)
      → TakesOneToken s limits reading tokens piece count next after → TakesMoreTokens s limits reading tokens piece count next after
  more-tokens reading tokens piece count next after one =
      let one_more = one.one_more in
      record { reading = one.reading; live = one.live; taken_are = one.taken_are; seen_at = one.seen_at; more = omega (arith, one_more) }

  pub step-piece : (held next : statements.Held) (kept : Kept) (piece : List ℕ) → statements.StepGives held piece (Ok None) next
      → limits_of next ≡ limits_of held → ReadsWhole s limits held kept piece next kept
  step-piece held next kept piece gives same reading live at =
      (reading.given, live-by_piece s limits held next kept reading piece live (gives reading live.reads at) same)

  pub step-token : (held next : statements.Held) (kept : Kept) (piece : List ℕ) (count : ℕ)
      → statements.StepGives held piece (Ok (Some (count, None))) next → limits_of next ≡ limits_of held
      → ReadsOn s limits held kept piece count next kept
  step-token held next kept piece count gives same reading live at =
      let tokens : ℕ = length live.reads.history.given in
      more-tokens reading tokens piece count next kept (live-by_token s limits held next kept reading tokens piece count live
      (gives reading live.reads at) same)

  pub step-statement : (held next : statements.Held) (kept after : Kept) (piece : List ℕ) (count : ℕ) (event : Event)
      → statements.StepGives held piece (Ok (Some (count, Some event))) next → limits_of next ≡ limits_of held
      → kept_steps.StepGives s limits kept (statement_of event) (Ok tt) after → ReadsOn s limits held kept piece count next after
  step-statement held next kept after piece count event gives same takes reading live at =
      let tokens : ℕ = length live.reads.history.given in
      more-tokens reading tokens piece count next after (live-by_statement s limits held next kept after reading tokens piece count
      (statement_of event) live (gives reading live.reads at) same takes)

  pub step-refused : (held next : statements.Held) (kept : Kept) (piece : List ℕ) (refusal : Refusal) (fault : Fault)
      → refusal.fault ≡ fault → statements.StepGives held piece (Err fault) next → EndsBy s limits held kept piece refusal
  step-refused held next kept piece refusal fault is gives other reading live at =
      dead-by_step s limits held next kept reading piece fault live at gives (λ none. other (is ∙ none))

  pub step-ends : IsWellFormed s → (held next : statements.Held) (kept after : Kept) (piece : List ℕ) (count : ℕ) (event : Event)
      (refusal : Refusal) (fault : Fault) → refusal.fault ≡ fault → statements.StepGives held piece (Ok (Some (count, Some event))) next
      → count ≤ length piece → kept_steps.StepGives s limits kept (statement_of event) (Err fault) after
      → EndsBy s limits held kept piece refusal
  step-ends formed held next kept after piece count event refusal fault is gives within refuses other reading live at =
      dead-by_statement s formed limits held next kept after reading (length live.reads.history.given) piece count (statement_of event)
      fault live (gives reading live.reads at) within refuses (λ none. other (is ∙ none))

  -- ---- separators

  pub step-quiet : (held : statements.Held) (kept : Kept) (piece : List ℕ) (refusal : Refusal) (fault : Fault) → refusal.fault ≡ fault
      → statements.NeedsNoMemory held piece (Err fault) → NeedsNoMemory s limits held kept piece refusal
  step-quiet held kept piece refusal fault is needs reading live at none are memory = needs reading live.reads at none are (sym is ∙ memory)

  -- a token can't have come
  pub token-quiet : (held : statements.Held) (kept : Kept) (piece : List ℕ) (answer : ℕ × Option Event)
      → statements.NeedsNoMemory held piece (Ok (Some answer)) → (refusal : Refusal) → NeedsNoMemory s limits held kept piece refusal
  token-quiet held kept piece answer needs refusal reading live at none are = absurd (needs reading live.reads at none are)

  pub token-none : (held : statements.Held) (kept : Kept) (piece : List ℕ) (answer : ℕ × Option Event)
      → statements.NeedsNoMemory held piece (Ok (Some answer)) → (count : ℕ) → EndsNoToken s limits held kept piece (Ok (Some count))
  token-none held kept piece answer needs count reading live at none are = needs reading live.reads at none are

  -- ---- what follows

  -- a statement behind which the reader stands
  pub follows-behind : (next : statements.Held) (kept : Kept) (reading on : StatementHistory) (statement : Statement)
      → Keeps s limits reading.given kept → statements.IsLive next on → on.given ≡ reading.given ++ statement ∷ []
      → (limits_of next).1 ≡ limits.file_source
      → limits.file_source < 2 ^ 64 → Follows s limits kept statement
  follows-behind next kept reading on statement keeps live given limit counted =
      let few = statements-few next on live in
      let within = source-within next on live in
      record {
        given = reading.given;
        keeps = keeps;
        structure = live.of_file.structure;
        are_first = subst (λ (sts : List Statement). AreFirstStatements sts live.of_file.structure) given live.of_file.are_first;
        few = subst (λ (sts : List Statement). length (flat_map statement_tokens sts) < 2 ^ 64) given
            (omega (arith, few, within, limit, counted));
      }

  -- the statement that a token ends
  pub statement-follows : (held next : statements.Held) (kept : Kept) (piece : List ℕ) (count : ℕ) (event : Event)
      → IsUnderWay s limits held kept piece → statements.StepGives held piece (Ok (Some (count, Some event))) next
      → limits_of next ≡ limits_of held → Follows s limits kept (statement_of event)
  statement-follows held next kept piece count event way gives same =
      let on = gives way.reading way.live.reads way.seen_at in
      follows-behind next kept way.reading on.reading (statement_of event) way.live.keeps on.live on.given_are
      (ap (λ p. p.1) (same ∙ way.live.limits_are)) way.counted

  -- ---- the rest of a piece behind so many bytes

  pub ends-on : (held next : statements.Held) (kept after : Kept) (piece : List ℕ) (count : ℕ) (refusal : Refusal)
      → ReadsOn s limits held kept piece count next after → count ≤ length piece → EndsBy s limits next after (drop count piece) refusal
      → EndsBy s limits held kept piece refusal
  ends-on held next kept after piece count refusal gives within ends other reading live at =
      let on = gives reading live at in
      dead-on s limits reading on.reading piece count on.taken_are within
      (ends other on.reading on.live (seen-first on.reading.seen count piece on.seen_at))

  read-on : (held next last : statements.Held) (kept after end : Kept) (piece : List ℕ) (count : ℕ)
      → ReadsOn s limits held kept piece count next after → count ≤ length piece
      → (result : Result (Unit {0}) Refusal) → ReadGives s limits next after (drop count piece) result last end
      → ReadGives s limits held kept piece result last end
  read-on held next last kept after end piece count gives within (Ok done) reads = λ reading live at.
      let on = gives reading live at in
      let whole = reads on.reading on.live (seen-first on.reading.seen count piece on.seen_at) in
      let same : on.reading.taken ++ drop count piece ≡ reading.taken ++ piece =
      ap (λ (l : List ℕ). l ++ drop count piece) on.taken_are ∙ append_assoc reading.taken (take count piece) (drop count piece)
      ∙ ap (λ (l : List ℕ). reading.taken ++ l) (take-append-drop count piece) in
      (whole.0, subst (λ (taken : List ℕ). IsLive s limits last end (record { taken = taken; seen = None; given = whole.0 })) same whole.1)
  read-on held next last kept after end piece count gives within (Err refusal) reads =
      ends-on held next kept after piece count refusal gives within reads

  -- where the rest has the place of a byte, the piece has it
  places-on : (held next last : statements.Held) (kept after : Kept) (piece : List ℕ) (count : ℕ) (refusal : Refusal)
      → ReadsOn s limits held kept piece count next after → count ≤ length piece → limits_of next ≡ limits_of held
      → PlacesByte s limits next after (drop count piece) last refusal → PlacesByte s limits held kept piece last refusal
  places-on held next last kept after piece count refusal gives within same has reading live at =
      let on = gives reading live at in
      subst (λ (l : ℕ × ℕ). HasPlace l reading.taken piece refusal.fault (place_behind last)) same
      (place-on (limits_of next) reading on.reading piece count refusal.fault (place_behind last) on.taken_are within
      (has on.reading on.live (seen-first on.reading.seen count piece on.seen_at)))

  -- ---- all tokens of a piece

  -- what the rest gives, the piece gives; and each round gave a token
  pub record IsRest (first : statements.Held) (old : Kept) (piece : List ℕ) (held : statements.Held) (kept : Kept) (rest : List ℕ)
      (rounds : ℕ) : Type 0 where
    pub gives : (result : Result (Unit {0}) Refusal) (last : statements.Held) (end : Kept)
        → ReadGives s limits held kept rest result last end → ReadGives s limits first old piece result last end
    pub stay : StaysWithin limits old kept
    pub limits_are : limits_of held ≡ limits_of first
    pub places : (refusal : Refusal) (last : statements.Held) → PlacesByte s limits held kept rest last refusal
        → PlacesByte s limits first old piece last refusal
    pub quiet : (refusal : Refusal) → NeedsNoMemory s limits held kept rest refusal → NeedsNoMemory s limits first old piece refusal
    pub under_way : IsUnderWay s limits held kept rest
    pub rounds_few : rounds ≤ length under_way.live.reads.history.given

  pub rest-first : (held : statements.Held) (kept : Kept) (piece : List ℕ) → IsUnderWay s limits held kept piece
      → IsRest held kept piece held kept piece 0
  rest-first held kept piece way =
      record {
        gives = λ result last end reads. reads;
        stay = stays-same limits kept;
        limits_are = refl;
        places = λ refusal last has. has;
        quiet = λ refusal needs. needs;
        under_way = way;
        rounds_few = omega arith;
      }

  pub rest-on : (first held next : statements.Held) (old kept after : Kept) (piece rest : List ℕ) (count rounds : ℕ)
      → IsRest first old piece held kept rest rounds → ReadsOn s limits held kept rest count next after → count ≤ length rest
      → StaysWithin limits kept after → limits_of next ≡ limits_of held → EndsNoToken s limits held kept rest (Ok (Some count))
      → IsRest first old piece next after (drop count rest) (rounds + 1)
  rest-on first held next old kept after piece rest count rounds so_far gives within stay same none =
      let way = so_far.under_way in
      let on = gives way.reading way.live way.seen_at in
      let few = so_far.rounds_few in
      let more = on.more in
      record {
        gives = λ result last end reads. so_far.gives result last end
            (read-on held next last kept after end rest count gives within result reads);
        stay = stays-on limits old kept after so_far.stay stay;
        limits_are = same ∙ so_far.limits_are;
        places = λ refusal last has. so_far.places refusal last
            (places-on held next last kept after rest count refusal gives within same has);
        quiet = λ refusal needs. so_far.quiet refusal (λ reading live at pending are. absurd (none reading live at pending are));
        under_way = record {
          reading = on.reading;
          live = on.live;
          seen_at = seen-first on.reading.seen count rest on.seen_at;
          counted =
              way.counted;
        };
        rounds_few = omega (arith, few, more);
      }

  -- a file has no more tokens than bytes, so 64 bits count the rounds
  pub rounds-few : (first held next : statements.Held) (old kept after : Kept) (piece rest : List ℕ) (count rounds : ℕ)
      → IsRest first old piece held kept rest rounds → ReadsOn s limits held kept rest count next after → rounds + 1 < 2 ^ 64
  rounds-few first held next old kept after piece rest count rounds so_far gives =
      let way = so_far.under_way in
      let on = gives way.reading way.live way.seen_at in
      let rounds_few = so_far.rounds_few in
      let more = on.more in
      let few = given-few next on.reading on.live.reads in
      let within = source-within next on.reading on.live.reads in
      let limit : (limits_of next).1 ≡ limits.file_source = ap (λ p. p.1) on.live.limits_are in
      let counted = way.counted in
      omega (arith, rounds_few, more, few, within, limit, counted)
