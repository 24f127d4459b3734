-- A session that is fed what a reader gives.
use Rattle.std.proofs.Common.{◌≡◌, ◌≢◌, ◌≤◌, ◌+◌, ◌-◌, ◌⊎◌, ℕ, suc, List, [], ◌∷◌, ◌++◌, length, take, drop, append_assoc, append-nil, Option, None, Ok, Err, inl, inr, refl, sym, ap, subst, ◌∙◌, length-append, take-append-drop, slice_index_or, Fits, w8, arith}
use Rattle.std.proofs.KnownBytes.{Consumes-nil, Consumes-trans}
use Rattle.std.specs.Io.KnownBytes.{Consumes}
use Rattle.std.specs.List.{AllByRecursion as Each}
use Rattle.p21_spec_basics.proofs.Members.{Each-back}
use Rattle.p21_spec_basics.specs.Digits.{IsByte}
use Rattle.p21_spec_basics.specs.History.{empty}
use Rattle.p21_spec_basics.specs.Limits.{Limits}
use Rattle.p21_spec_file.proofs.Dead.{dead_further}
use Rattle.p21_spec_file.specs.Accepted.{IsAccepted, IsDead}
use Rattle.p21_spec_schema.specs.Schema.{Schema}
use Rattle.p21_stream.specs.Feeding.{FeedsMore, IsFedFrom, IsFedWhole, RefusesFedBytes, RefusesPiece, TakesAtMost, taken_history}
use Rattle.p21_stream.specs.ReaderInput.{ConsumesAtMost, IsAcceptedInput, IsOfBytes, IsRefused, RefusesRead}
use Rattle.p21_stream_output.specs.Output.{Output}
use Rattle.p21_stream_statements.specs.declared.fault.Fault.{Fault}
use Rattle.p21_stream_statements.specs.declared.fault.Fault.TheVariants.{Token, Grammar, Check, SchemaName, SectionTwice, DuplicateName, CanonicalTooLong, Dangling, WrongTarget, NoMemory, Read, Write}
use Rattle.p21_stream_statements.specs.declared.refusal.Refusal.{Refusal}
use Rattle.p21_stream_statements.specs.StatementReader as statements
use Rattle.p21_stream.specs.Held.{SessionHeld, limits_of, schema_of}
use Rattle.p21_stream.specs.Histories.{FeedGives, FinishGives, KeepsSchema, SessionHistory, Stands, nothing_taken}
use Rattle.p21_tokens.specs.Histories as tokens

-- ---- within the limit of a file

live-short : (held : statements.Held) (reading : statements.StatementHistory) → statements.IsLive held reading
    → length reading.taken ≤ (statements.limits_of held).1
live-short held reading live = short live.answered where
  short : (live.history ≡ empty) ⊎ tokens.Answers held.lexer live.history → length reading.taken ≤ (statements.limits_of held).1
  short (inl none) = let e : reading.taken ≡ [] = sym live.taken_are ∙ ap (λ h. h.taken) none in rw e (omega arith)
  short (inr answers) = subst (λ (l : List ℕ). length l ≤ (statements.limits_of held).1) live.taken_are answers.file_within

pub taken-short : (held : SessionHeld) (history : SessionHistory) → Stands held history → history.refusal ≡ None
    → length history.taken ≤ (limits_of held).file_source
unfolding Stands
taken-short held history stands open_ =
    let live = (stands.1 open_).1 in
    subst (λ (most : ℕ). length history.taken ≤ most) (ap (λ p. p.1) live.limits_are) (live-short held.statements _ live.reads)

-- ---- one more piece

pub along-more : (start old new : Option (List ℕ)) (before after : SessionHeld) (piece : List ℕ) (size count : ℕ) → Consumes old new piece
    → length piece ≡ count → FeedGives before piece (Ok tt) after → IsFedFrom start old before size
    → IsFedFrom start new after (size + count)
along-more start old new before after piece size count more count_is gives along = record {
  bytes = along.bytes ++ piece;
  consumed = Consumes-trans start old new along.bytes piece along.consumed more;
  size_is = length-append along.bytes piece ∙ ap (λ (n : ℕ). n + length piece) along.size_is ∙ ap (λ (n : ℕ). size + n) count_is;
  stands = (gives (taken_history along.bytes) along.stands).1;
}

-- ---- refusals

-- a refusal that is no fault of a reader or a writer
pub refused-by : (s : Schema) (limits : Limits) (start new : Option (List ℕ)) (fault : Fault) → IsOfBytes fault
    → (fault ≢ NoMemory → IsRefused s limits start new) → RefusesRead s limits start new fault
refused-by s limits start new NoMemory of refused = tt
refused-by s limits start new Read of refused = tt
refused-by s limits start new Write of refused = of
refused-by s limits start new (Token fault) of refused = (of.0, refused (λ e. cc e))
refused-by s limits start new (Grammar fault) of refused = refused (λ e. cc e)
refused-by s limits start new (Check fault) of refused = refused (λ e. cc e)
refused-by s limits start new SchemaName of refused = refused (λ e. cc e)
refused-by s limits start new SectionTwice of refused = refused (λ e. cc e)
refused-by s limits start new DuplicateName of refused = refused (λ e. cc e)
refused-by s limits start new CanonicalTooLong of refused = refused (λ e. cc e)
refused-by s limits start new Dangling of refused = refused (λ e. cc e)
refused-by s limits start new WrongTarget of refused = refused (λ e. cc e)

-- ---- bytes

-- the items of a buffer are bytes
pub each-byte : (buffer : List ℕ) → ((i : ℕ) → Fits w8 (slice_index_or buffer i 0)) → Each IsByte buffer
each-byte [] fits = tt
each-byte (byte ∷ bytes) fits = ((let f = (fits 0).fits in omega arith), each-byte bytes (λ i. fits (suc i)))

pub dead-piece : (s : Schema) (limits : Limits) (taken piece : List ℕ) (count : ℕ) → Each IsByte piece
    → IsDead s limits (taken ++ take count piece) → IsDead s limits (taken ++ piece)
dead-piece s limits taken piece count are dead =
    let whole = take-append-drop count piece in
    let later : Each IsByte (drop count piece) = Each-back IsByte (take count piece) (drop count piece)
    (subst (Each IsByte) (sym whole) are) in
    subst (IsDead s limits) (append_assoc taken (take count piece) (drop count piece) ∙ ap (λ (l : List ℕ). taken ++ l) whole)
    (dead_further s limits (taken ++ take count piece) (drop count piece) later dead)

-- nor is a text accepted whose prefix is dead
pub dead-text : (s : Schema) (limits : Limits) (text : List ℕ) (count : ℕ) → ((i : ℕ) → Fits w8 (slice_index_or text i 0))
    → IsDead s limits ([] ++ take count text) → ¬ IsAccepted s limits text
dead-text s limits text count fits dead accepted =
    dead-piece s limits [] text count (each-byte text fits) dead [] tt (subst (IsAccepted s limits) (sym (append-nil text)) accepted)

-- a piece with which nothing that is accepted goes on
pub piece-refused : (before after : SessionHeld) (piece : List ℕ) (refusal : Refusal) → ((i : ℕ) → Fits w8 (slice_index_or piece i 0))
    → IsOfBytes refusal.fault → FeedGives before piece (Err refusal) after → RefusesPiece before piece refusal.fault
piece-refused before after piece refusal fits of gives old new more start size along =
    let r = gives (taken_history along.bytes) along.stands refl in
    refused-by (schema_of before) (limits_of before) start new refusal.fault of (λ other. record {
      bytes = along.bytes ++ piece;
      consumed = Consumes-trans start old new along.bytes piece along.consumed more;
      refused = inl (dead-piece (schema_of before) (limits_of before) along.bytes piece r.count (each-byte piece fits) (r.dead other));
    })

-- ---- the end

pub whole-refused : (old new : Option (List ℕ)) (session : SessionHeld) (refusal : Refusal) → IsFedWhole old new session
    → IsOfBytes refusal.fault → FinishGives session (Err refusal)
    → RefusesRead (schema_of session) (limits_of session) old new refusal.fault
whole-refused old new session refusal whole of gives =
    refused-by (schema_of session) (limits_of session) old new refusal.fault of (λ other. record {
      bytes = whole.bytes;
      consumed = whole.read.consumed;
      refused = inr (whole.read.at_end, gives other (taken_history whole.bytes) whole.stands);
    })

pub whole-accepted : (old new : Option (List ℕ)) (session : SessionHeld) (output : Output) → IsFedWhole old new session
    → FinishGives session (Ok output) → IsAcceptedInput (schema_of session) (limits_of session) old new output
whole-accepted old new session output whole gives = record {
  bytes = whole.bytes;
  read = whole.read;
  accepted = (gives (taken_history whole.bytes) whole.stands).1;
}

-- ---- the loop

-- so much was fed, and so much may still come
pub record InLoop (start now : Option (List ℕ)) (first session : SessionHeld) (most left : ℕ) : Type 0 where
  pub size : ℕ
  pub along : IsFedFrom start now session size
  pub left_is : size + left ≡ most
  pub kept : KeepsSchema first session

pub loop-starts : (now : Option (List ℕ)) (session : SessionHeld) (most : ℕ) → Stands session nothing_taken
    → InLoop now now session session most most
loop-starts now session most stands = record {
  size = 0;
  along = record { bytes = []; consumed = Consumes-nil now; size_is = refl; stands = stands };
  left_is = omega arith;
  kept = (refl, refl);
}

pub loop-short : (start old new : Option (List ℕ)) (first before after : SessionHeld) (most left count : ℕ)
    → most ≡ (limits_of first).file_source → InLoop start old first before most left → KeepsSchema before after
    → FeedsMore old new before after count → count ≤ left
loop-short start old new first before after most left count is in_loop keeps feeds =
    let along = feeds.along start in_loop.size in_loop.along in
    let short : length along.bytes ≤ most = subst (λ (n : ℕ). length along.bytes ≤ n)
    (ap (λ (l : Limits). l.file_source) (keeps.1 ∙ in_loop.kept.1) ∙ sym is)
    (taken-short after (taken_history along.bytes) along.stands refl) in
    let size = along.size_is in
    let left_is = in_loop.left_is in
    omega arith

pub loop-goes_on : (start old new : Option (List ℕ)) (first before after : SessionHeld) (most left count : ℕ) → count ≤ left
    → InLoop start old first before most left → KeepsSchema before after → FeedsMore old new before after count
    → InLoop start new first after most (left - count)
loop-goes_on start old new first before after most left count short in_loop keeps feeds = record {
  size = in_loop.size + count;
  along = feeds.along start in_loop.size in_loop.along;
  left_is = let left_is = in_loop.left_is in omega arith;
  kept = (keeps.0 ∙ in_loop.kept.0, keeps.1 ∙ in_loop.kept.1);
}

pub loop-whole : (start old new : Option (List ℕ)) (first before after : SessionHeld) (most left count : ℕ)
    → InLoop start old first before most left → FeedsMore old new before after count → count ≡ 0 → IsFedWhole start new after
loop-whole start old new first before after most left count in_loop feeds none =
    let along = feeds.along start in_loop.size in_loop.along in
    record { bytes = along.bytes; read = record { consumed = along.consumed; at_end = feeds.ended none }; stands = along.stands }

pub loop-refused : (start old new : Option (List ℕ)) (first before : SessionHeld) (most left : ℕ) (fault : Fault)
    → InLoop start old first before most left → RefusesFedBytes old new before fault
    → RefusesRead (schema_of first) (limits_of first) start new fault
loop-refused start old new first before most left fault in_loop refuses =
    subst (λ (l : Limits). RefusesRead (schema_of first) l start new fault) in_loop.kept.1
    (subst (λ (s : Schema). RefusesRead s (limits_of before) start new fault) in_loop.kept.0 (refuses start in_loop.size in_loop.along))

pub loop-consumed : (start old new : Option (List ℕ)) (first before : SessionHeld) (most left : ℕ) → most ≡ (limits_of first).file_source
    → InLoop start old first before most left → TakesAtMost (left + 1) old new → ConsumesAtMost (limits_of first) start new
loop-consumed start old new first before most left is in_loop takes = (
  in_loop.along.bytes ++ takes.0,
  Consumes-trans start old new in_loop.along.bytes takes.0 in_loop.along.consumed takes.1,
  (let size = in_loop.along.size_is in let left_is = in_loop.left_is in let some = takes.2 in
      omega (arith, length-append in_loop.along.bytes takes.0)),
)

-- ---- what a session stands for, under its schema and its limits

pub under : (P : Schema → Limits → Type 0) (s : Schema) (limits : Limits) (first session : SessionHeld) → schema_of first ≡ s
    → limits_of first ≡ limits → KeepsSchema first session → P (schema_of session) (limits_of session) → P s limits
under P s limits first session is_schema are_limits keeps holds =
    subst (λ (l : Limits). P s l) (keeps.1 ∙ are_limits) (subst (λ (t : Schema). P t (limits_of session)) (keeps.0 ∙ is_schema) holds)
