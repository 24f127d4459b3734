-- What a walk over the bytes of a file owes for a token, for instances and for a piece (this project's own).
use Rattle.std.specs.Prelude.{◌≡◌, ◌≢◌, ◌≤◌, ◌<◌, ◌^◌, ℕ, List, ◌++◌, length, take, Option, Some, None, Result, Ok, Err}
use Rattle.p21_spec_basics.specs.Limits.{Limits}
use Rattle.p21_spec_exchange.specs.Pending.{IsPending}
use Rattle.p21_spec_exchange.specs.Statement.{Statement}
use Rattle.p21_spec_file.specs.Accepted.{IsDead}
use Rattle.p21_spec_laws.specs.Keeping.{Kept}
use Rattle.p21_spec_schema.specs.Schema.{Schema}
use Rattle.p21_stream.specs.Session.{IsLive}
use Rattle.p21_stream_statements.specs.Place.{HasPlace, place_behind}
use Rattle.p21_stream_statements.specs.StatementReader as statements
use Rattle.p21_stream_statements.specs.StatementReader.{IsSeenAt, StatementHistory, limits_of}
use Rattle.p21_stream_statements.specs.declared.fault.Fault.TheVariants.{NoMemory}
use Rattle.p21_stream_statements.specs.declared.refusal.Refusal.{Refusal}
use Rattle.p21_tokens.specs.Histories.{AreSeparators}

-- a history is live, and the byte that was seen is offered first; 64 bits count the bytes of a file
pub record IsUnderWay (s : Schema) (limits : Limits) (held : statements.Held) (kept : Kept) (piece : List ℕ) : Type 0 where
  pub reading : StatementHistory
  pub live : IsLive s limits held kept reading
  pub seen_at : IsSeenAt reading.seen piece 0
  pub counted : limits.file_source < 2 ^ 64

-- so many bytes of the piece at most
abbrev pub TakesWithinPiece : List ℕ → Result (Option ℕ) Refusal → Type 0
TakesWithinPiece piece (Ok (Some count)) = count ≤ length piece
TakesWithinPiece piece other = Unit {0}

-- nothing that is accepted begins with the bytes taken and some of the piece
pub record IsDeadWithin (s : Schema) (limits : Limits) (old : StatementHistory) (piece : List ℕ) : Type 0 where
  pub upto : ℕ
  pub within : upto ≤ length piece
  pub dead : IsDead s limits (old.taken ++ take upto piece)

-- a history of so many tokens goes on behind so many bytes of a piece, with more tokens
pub record TakesMoreTokens (s : Schema) (limits : Limits) (old : StatementHistory) (tokens : ℕ) (piece : List ℕ) (count : ℕ)
    (held : statements.Held) (kept : Kept) : Type 0 where
  pub reading : StatementHistory
  pub live : IsLive s limits held kept reading
  pub taken_are : reading.taken ≡ old.taken ++ take count piece
  pub seen_at : IsSeenAt reading.seen piece count
  pub more : tokens < length live.reads.history.given

-- ---- of each history that is live, where the byte that was seen is offered first

-- it goes on behind the whole piece, with whatever statements
abbrev pub ReadsWhole : Schema → Limits → statements.Held → Kept → List ℕ → statements.Held → Kept → Type 0
ReadsWhole s limits held kept piece next after =
    (reading : StatementHistory) → IsLive s limits held kept reading → IsSeenAt reading.seen piece 0
    → (given : List Statement) × IsLive s limits next after (record { taken = reading.taken ++ piece; seen = None; given = given })

-- it goes on behind so many bytes, with more tokens
abbrev pub ReadsOn : Schema → Limits → statements.Held → Kept → List ℕ → ℕ → statements.Held → Kept → Type 0
ReadsOn s limits held kept piece count next after =
    (reading : StatementHistory) (live : IsLive s limits held kept reading) → IsSeenAt reading.seen piece 0
    → TakesMoreTokens s limits reading (length live.reads.history.given) piece count next after

-- it ends with this refusal, want of memory apart
abbrev pub EndsBy : Schema → Limits → statements.Held → Kept → List ℕ → Refusal → Type 0
EndsBy s limits held kept piece refusal = refusal.fault ≢ NoMemory → (reading : StatementHistory) → IsLive s limits held kept reading
    → IsSeenAt reading.seen piece 0 → IsDeadWithin s limits reading piece

-- the reader stands at the byte that is refused
abbrev pub PlacesByte : Schema → Limits → statements.Held → Kept → List ℕ → statements.Held → Refusal → Type 0
PlacesByte s limits held kept piece next refusal = (reading : StatementHistory) → IsLive s limits held kept reading
    → IsSeenAt reading.seen piece 0 → HasPlace (limits_of held) reading.taken piece refusal.fault (place_behind next)

-- between tokens, separators need no memory
abbrev pub NeedsNoMemory : Schema → Limits → statements.Held → Kept → List ℕ → Refusal → Type 0
NeedsNoMemory s limits held kept piece refusal = (reading : StatementHistory) → IsLive s limits held kept reading
    → IsSeenAt reading.seen piece 0 → IsPending reading.taken 0 → AreSeparators piece → refusal.fault ≢ NoMemory

-- and end no token
abbrev pub EndsNoToken : Schema → Limits → statements.Held → Kept → List ℕ → Result (Option ℕ) Refusal → Type 0
EndsNoToken s limits held kept piece (Ok (Some count)) = (reading : StatementHistory) → IsLive s limits held kept reading
    → IsSeenAt reading.seen piece 0 → IsPending reading.taken 0 → AreSeparators piece → ⊥
EndsNoToken s limits held kept piece other = Unit {0}

-- ---- what is given

-- by a token, by instances, or by the rest of a piece
abbrev pub StepGives : Schema → Limits → statements.Held → Kept → List ℕ → Result (Option ℕ) Refusal → statements.Held → Kept → Type 0
StepGives s limits held kept piece (Ok None) next after = ReadsWhole s limits held kept piece next after
StepGives s limits held kept piece (Ok (Some count)) next after = ReadsOn s limits held kept piece count next after
StepGives s limits held kept piece (Err refusal) next after = EndsBy s limits held kept piece refusal

-- by a whole piece
abbrev pub ReadGives : Schema → Limits → statements.Held → Kept → List ℕ → Result (Unit {0}) Refusal → statements.Held → Kept → Type 0
ReadGives s limits held kept piece (Ok done) next after = ReadsWhole s limits held kept piece next after
ReadGives s limits held kept piece (Err refusal) next after = EndsBy s limits held kept piece refusal

-- by instances that are taken straight from their bytes: as much as by their tokens; where there is none, all is as before
abbrev pub TakeGives : Schema → Limits → statements.Held → Kept → List ℕ → Result (Option ℕ) Refusal → statements.Held → Kept → Type 0
TakeGives s limits held kept piece (Ok None) next after = (next ≡ held) × (after ≡ kept)
TakeGives s limits held kept piece (Ok (Some count)) next after = ReadsOn s limits held kept piece count next after
TakeGives s limits held kept piece (Err refusal) next after = EndsBy s limits held kept piece refusal
