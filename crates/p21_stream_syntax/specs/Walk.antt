-- What the bytes of a file give that is read by itself.
use Rattle.std.specs.Prelude.{◌≡◌, ◌≢◌, ◌≤◌, ◌<◌, ◌^◌, ℕ, List, ◌++◌, length, take, Option, Some, None, Result, Ok, Err}
use Rattle.p21_grammar_tree.specs.View.{part_views}
use Rattle.p21_spec_basics.specs.Limits.{Limits}
use Rattle.p21_spec_exchange.specs.DataSection.{instances_in}
use Rattle.p21_spec_exchange.specs.Statement.{Statement}
use Rattle.p21_spec_exchange.specs.Structure.{Structure}
use Rattle.p21_spec_syntax.specs.WellFormedFile.{BeginsIllFormed, IsIllFormed, IsWellFormedFile}
use Rattle.p21_stream_statements.specs.declared.fault.Fault.TheVariants.{NoMemory}
use Rattle.p21_stream_statements.specs.declared.refusal.Refusal.{Refusal}
use Rattle.p21_stream_statements.specs.StatementReader as statements
use Rattle.p21_stream_statements.specs.StatementReader.{IsSeenAt, StatementHistory, limits_of}
use Rattle.p21_stream_syntax.specs.Given.{Keeps, Kept}
use Rattle.p21_stream_syntax.specs.declared.well_formed.WellFormed.{WellFormed}
use Rattle.p21_syntax_words.specs.KeywordCounts.{AreCounts, keywords_of}

-- the statement reader stands for a history, within the limits, and this is kept of its statements
pub record IsLive (limits : Limits) (held : statements.Held) (kept : Kept) (reading : StatementHistory) : Type 0 where
  pub reads : statements.IsLive held reading
  pub limits_are : limits_of held ≡ (limits.record_source, limits.file_source)
  pub keeps : Keeps reading.given kept

-- a history is live, and the byte that was seen is offered first; 64 bits count the bytes of a file
pub record IsUnderWay (limits : Limits) (held : statements.Held) (kept : Kept) (piece : List ℕ) : Type 0 where
  pub reading : StatementHistory
  pub live : IsLive limits held kept reading
  pub seen_at : IsSeenAt reading.seen piece 0
  pub counted : limits.file_source < 2 ^ 64

-- these bytes are taken, with whatever statements, and none was seen behind them
abbrev pub HasTaken : Limits → statements.Held → Kept → List ℕ → Type 0
HasTaken limits held kept bytes = (given : List Statement) × IsLive limits held kept (record { taken = bytes; seen = None; given = given })

-- so many bytes of the piece at most
abbrev pub TakesWithinPiece : List ℕ → Result (Option ℕ) Refusal → Type 0
TakesWithinPiece piece (Ok (Some count)) = count ≤ length piece
TakesWithinPiece piece other = Unit {0}

-- a history of so many tokens goes on behind so many bytes of a piece, with one token more
pub record TakesOneToken (limits : Limits) (old : StatementHistory) (tokens : ℕ) (piece : List ℕ) (count : ℕ) (held : statements.Held)
    (kept : Kept) : Type 0 where
  pub reading : StatementHistory
  pub live : IsLive limits held kept reading
  pub taken_are : reading.taken ≡ old.taken ++ take count piece
  pub seen_at : IsSeenAt reading.seen piece count
  pub more : tokens < length live.reads.history.given

-- no well-formed file begins with the bytes taken and some of the piece
pub record IsIllFormedWithin (limits : Limits) (old : StatementHistory) (piece : List ℕ) : Type 0 where
  pub upto : ℕ
  pub within : upto ≤ length piece
  pub ill_formed : BeginsIllFormed limits (old.taken ++ take upto piece)

-- what a token, or the rest of a piece, gives: for each history that is live, where the byte that was seen is offered first
abbrev pub StepGives : Limits → statements.Held → Kept → List ℕ → Result (Option ℕ) Refusal → statements.Held → Kept → Type 0
StepGives limits held kept piece (Ok None) next after = (reading : StatementHistory) → IsLive limits held kept reading
    → IsSeenAt reading.seen piece 0 → HasTaken limits next after (reading.taken ++ piece)
StepGives limits held kept piece (Ok (Some count)) next after = (reading : StatementHistory) (live : IsLive limits held kept reading)
    → IsSeenAt reading.seen piece 0 → TakesOneToken limits reading (length live.reads.history.given) piece count next after
StepGives limits held kept piece (Err refusal) next after = refusal.fault ≢ NoMemory → (reading : StatementHistory)
    → IsLive limits held kept reading → IsSeenAt reading.seen piece 0 → IsIllFormedWithin limits reading piece

-- what a whole piece gives, or a refusal within it
abbrev pub ReadGives : Limits → statements.Held → Kept → List ℕ → Result (Unit {0}) Refusal → statements.Held → Kept → Type 0
ReadGives limits held kept piece (Ok done) next after = (reading : StatementHistory) → IsLive limits held kept reading
    → IsSeenAt reading.seen piece 0 → HasTaken limits next after (reading.taken ++ piece)
ReadGives limits held kept piece (Err refusal) next after = refusal.fault ≢ NoMemory → (reading : StatementHistory)
    → IsLive limits held kept reading → IsSeenAt reading.seen piece 0 → IsIllFormedWithin limits reading piece

-- ---- the end

-- The bytes are a well-formed file with so many instances, whose schema has this name, whose header these records, and whose
-- instances have so many of each keyword
pub record IsFoundOf (limits : Limits) (bytes : List ℕ) (found : WellFormed) : Type 0 where
  pub structure : Structure
  pub well_formed : IsWellFormedFile limits bytes structure found.schema.items
  pub instances_are : found.instances ≡ length (instances_in structure.sections)
  pub header_is : part_views found.header.items ≡ structure.header
  pub keywords_are : AreCounts (keywords_of (instances_in structure.sections)) found.keywords

-- what the end of the bytes gives, whatever the limits
abbrev pub FinishGives : statements.Held → Kept → Result WellFormed Refusal → Type 0
FinishGives held kept (Ok found) = (limits : Limits) (bytes : List ℕ) → HasTaken limits held kept bytes → IsFoundOf limits bytes found
FinishGives held kept (Err refusal) = refusal.fault ≢ NoMemory → (limits : Limits) (bytes : List ℕ) → HasTaken limits held kept bytes
    → IsIllFormed limits bytes
