-- The laws of a session while bytes come.
use Rattle.std.specs.Prelude.{◌≡◌, ◌≢◌, ◌≤◌, ℕ, List, [], ◌∷◌, ◌++◌, length, None, Ok, Err}
use Rattle.p21_spec_basics.specs.Limits.{Limits}
use Rattle.p21_spec_laws.specs.Keeping.{Kept, nothing_kept}
use Rattle.p21_spec_exchange.specs.Statement.{Statement}
use Rattle.p21_spec_file.specs.Held.{IsHeld}
use Rattle.p21_spec_schema.specs.Schema.{Schema}
use Rattle.p21_spec_schema.specs.WellFormed.{IsWellFormed}
use Rattle.p21_stream_statements.specs.declared.fault.Fault.{Fault}
use Rattle.p21_stream_statements.specs.declared.fault.Fault.TheVariants.{NoMemory}
use Rattle.p21_stream_statements.specs.StatementReader as statements
use Rattle.p21_stream_statements.specs.StatementReader.{HasOpenStatement, IsSeenAt, StatementHistory, limits_of, nothing_read}
use Rattle.p21_stream_kept.specs.Steps as kept_steps
use Rattle.p21_stream.specs.Session.{TakesOneToken, IsLive}
use Rattle.p21_stream.specs.Walk.{IsDeadWithin}

-- a session that has taken nothing is live
abbrev pub LiveAtStart : Type 0
LiveAtStart = (s : Schema) (limits : Limits) (held : statements.Held) → statements.IsLive held nothing_read
    → limits_of held ≡ (limits.record_source, limits.file_source) → IsLive s limits held nothing_kept nothing_read

-- a session stays live with a token that ends no statement
abbrev pub LiveByToken : Type 0
LiveByToken = (s : Schema) (limits : Limits) (held next : statements.Held) (kept : Kept) (reading : StatementHistory) (tokens : ℕ)
    (piece : List ℕ) (count : ℕ) → IsLive s limits held kept reading → statements.TakesOneToken reading tokens piece count [] next
    → limits_of next ≡ limits_of held
    → TakesOneToken s limits reading tokens piece count next kept

-- a session stays live with the rest of a piece, in which no token is whole
abbrev pub LiveByPiece : Type 0
LiveByPiece = (s : Schema) (limits : Limits) (held next : statements.Held) (kept : Kept) (reading : StatementHistory) (piece : List ℕ)
    → IsLive s limits held kept reading → statements.IsLive next
    (record { taken = reading.taken ++ piece; seen = None; given = reading.given }) → limits_of next ≡ limits_of held
    → IsLive s limits next kept (record { taken = reading.taken ++ piece; seen = None; given = reading.given })

-- a session stays live with a statement that is taken
abbrev pub LiveByStatement : Type 0
LiveByStatement = (s : Schema) (limits : Limits) (held next : statements.Held) (kept after : Kept) (reading : StatementHistory) (tokens : ℕ)
    (piece : List ℕ) (count : ℕ) (statement : Statement) → IsLive s limits held kept reading
    → statements.TakesOneToken reading tokens piece count (statement ∷ []) next
    → limits_of next ≡ limits_of held → kept_steps.StepGives s limits kept statement (Ok tt) after
    → TakesOneToken s limits reading tokens piece count next after

-- where a statement is refused, want of memory apart, nothing that is accepted begins with the bytes taken and some of the piece
abbrev pub DeadByStatement : Type 0
DeadByStatement = (s : Schema) → IsWellFormed s → (limits : Limits) (held next : statements.Held) (kept after : Kept)
    (reading : StatementHistory) (tokens : ℕ) (piece : List ℕ) (count : ℕ) (statement : Statement) (fault : Fault)
    → IsLive s limits held kept reading
    → statements.TakesOneToken reading tokens piece count (statement ∷ []) next → count ≤ length piece
    → kept_steps.StepGives s limits kept statement (Err fault) after → fault ≢ NoMemory → IsDeadWithin s limits reading piece

-- where a byte or a token is refused, want of memory apart, the same is known
abbrev pub DeadByStep : Type 0
DeadByStep = (s : Schema) (limits : Limits) (held next : statements.Held) (kept : Kept) (reading : StatementHistory) (piece : List ℕ)
    (fault : Fault) → IsLive s limits held kept reading → IsSeenAt reading.seen piece 0 → statements.StepGives held piece (Err fault) next
    → fault ≢ NoMemory
    → IsDeadWithin s limits reading piece

-- what a live session holds is what the definition says
abbrev pub HeldWhileLive : Type 0
HeldWhileLive = (s : Schema) (limits : Limits) (held : statements.Held) (kept : Kept) (reading : StatementHistory)
    → IsLive s limits held kept reading → (pending depth : ℕ) → HasOpenStatement reading pending depth
    → IsHeld s reading.taken (record { pending = pending; depth = depth; kept = kept.bytes; needs = kept.references })
