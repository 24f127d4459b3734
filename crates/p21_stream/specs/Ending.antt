-- What the end of the bytes gives.
use Rattle.std.specs.Prelude.{◌≡◌, ◌≢◌, ℕ, List, None, Result, Ok, Err}
use Rattle.std.specs.List.{AllByRecursion as Each}
use Rattle.p21_spec_basics.specs.Limits.{Limits}
use Rattle.p21_spec_laws.specs.Beside.{IsKeptOfWhole}
use Rattle.p21_spec_laws.specs.Keeping.{IsServedBy, Kept}
use Rattle.p21_spec_laws.specs.Waiting.{Reference}
use Rattle.p21_spec_exchange.specs.Statement.{Statement}
use Rattle.p21_spec_file.specs.Accepted.{IsAccepted}
use Rattle.p21_spec_schema.specs.Schema.{Schema}
use Rattle.p21_stream_output.specs.Output.{Output}
use Rattle.p21_stream_statements.specs.declared.fault.Fault.TheVariants.{NoMemory}
use Rattle.p21_stream_statements.specs.declared.refusal.Refusal.{Refusal}
use Rattle.p21_stream_statements.specs.StatementReader as statements
use Rattle.p21_stream_statements.specs.StatementReader.{StatementHistory}
use Rattle.p21_stream.specs.Canonical.{IsCanonicalOutput, IsCounted}
use Rattle.p21_stream.specs.declared.counting.Counted.{Counted}
use Rattle.p21_stream.specs.Session.{IsLive}

-- between two pieces: a history is live, and no byte behind it was seen
pub record IsBetweenPieces (s : Schema) (held : statements.Held) (kept : Kept) : Type 0 where
  pub limits : Limits
  pub reading : StatementHistory
  pub live : IsLive s limits held kept reading
  pub none_seen : reading.seen ≡ None

-- what the end of the bytes gives, whatever the canonical limits
abbrev pub EndGives : Schema → statements.Held → Kept → Result Output Refusal → Type 0
EndGives s held kept (Ok accepted) = (limits : Limits) (taken : List ℕ) (given : List Statement)
    → IsLive s limits held kept (record { taken = taken; seen = None; given = given }) → IsCanonicalOutput s limits taken accepted
EndGives s held kept (Err refusal) = refusal.fault ≢ NoMemory → (limits : Limits) (taken : List ℕ) (given : List Statement)
    → IsLive s limits held kept (record { taken = taken; seen = None; given = given }) → ¬ IsAccepted s limits taken

-- the bytes end with a whole file, and each reference that waits is served
abbrev pub EndsServed : Schema → statements.Held → Kept → Type 0
EndsServed s held kept = statements.FinishGives held (Ok tt) × Each (λ (r : Reference). IsServedBy s kept.stored r.1) kept.waiting

-- what is kept at the end of the bytes, whatever the canonical limits
abbrev pub EndsWhole : Schema → statements.Held → Kept → Result Kept Refusal → Type 0
EndsWhole s held kept (Ok whole) = (limits : Limits) (taken : List ℕ) (given : List Statement)
    → IsLive s limits held kept (record { taken = taken; seen = None; given = given }) → IsKeptOfWhole s limits taken whole
EndsWhole s held kept (Err refusal) = EndGives s held kept (Err refusal)

-- what is counted at the end of the bytes, whatever the canonical limits
abbrev pub CountsEnd : Schema → statements.Held → Kept → Result Counted Refusal → Type 0
CountsEnd s held kept (Ok counted) = (limits : Limits) (taken : List ℕ) (given : List Statement)
    → IsLive s limits held kept (record { taken = taken; seen = None; given = given }) → IsCounted s limits taken counted
CountsEnd s held kept (Err refusal) = EndGives s held kept (Err refusal)
