-- What a session knows of the bytes that it has taken, where it has refused none.
use Rattle.std.specs.Prelude.{◌≡◌, ◌+◌, ℕ, List, ◌++◌, length, take}
use Rattle.p21_spec_basics.specs.Limits.{Limits}
use Rattle.p21_spec_laws.specs.Keeping.{Keeps, Kept}
use Rattle.p21_spec_schema.specs.Schema.{Schema}
use Rattle.p21_stream_statements.specs.StatementReader as statements
use Rattle.p21_stream_statements.specs.StatementReader.{IsSeenAt, StatementHistory, limits_of}

-- the statement reader stands for a history, within the limits, and the store keeps its statements
pub record IsLive (s : Schema) (limits : Limits) (held : statements.Held) (kept : Kept) (reading : StatementHistory) : Type 0 where
  pub reads : statements.IsLive held reading
  pub limits_are : limits_of held ≡ (limits.record_source, limits.file_source)
  pub keeps : Keeps s limits reading.given kept

-- a history of so many tokens goes on behind so many bytes of a piece, with one more token
pub record TakesOneToken (s : Schema) (limits : Limits) (old : StatementHistory) (tokens : ℕ) (piece : List ℕ) (count : ℕ)
    (held : statements.Held) (kept : Kept) : Type 0 where
  pub reading : StatementHistory
  pub live : IsLive s limits held kept reading
  pub taken_are : reading.taken ≡ old.taken ++ take count piece
  pub seen_at : IsSeenAt reading.seen piece count
  pub one_more : length live.reads.history.given ≡ tokens + 1
