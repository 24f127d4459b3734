-- What a session has taken and refused, and what each call adds to it.
use Rattle.std.specs.Prelude.{◌≡◌, ◌≢◌, ◌≤◌, ℕ, List, [], ◌++◌, length, take, Option, Some, None, Result, Ok, Err}
use Rattle.p21_spec_basics.specs.Limits.{Limits}
use Rattle.p21_spec_laws.specs.Beside.{IsKeptOfWhole}
use Rattle.p21_spec_laws.specs.Keeping.{Kept}
use Rattle.p21_spec_exchange.specs.Statement.{Statement}
use Rattle.p21_spec_exchange.specs.Pending.{IsPending}
use Rattle.p21_spec_file.specs.Accepted.{IsAccepted, IsDead}
use Rattle.p21_spec_file.specs.Held as files
use Rattle.p21_spec_file.specs.Held.{IsHeld}
use Rattle.p21_spec_schema.specs.Schema.{Schema}
use Rattle.p21_stream_output.specs.Output.{Output}
use Rattle.p21_stream_statements.specs.Place.{HasPlace, IsPlaceOf, place_behind}
use Rattle.p21_stream_statements.specs.declared.fault.Fault.TheVariants.{NoMemory}
use Rattle.p21_stream_statements.specs.declared.place.Place.{Place}
use Rattle.p21_stream_statements.specs.declared.refusal.Refusal.{Refusal}
use Rattle.p21_stream.specs.Canonical.{IsCanonicalOutput, IsCounted}
use Rattle.p21_stream.specs.declared.counting.Counted.{Counted}
use Rattle.p21_stream.specs.Checked.{ChecksStatements}
use Rattle.p21_stream.specs.Held.{SessionHeld, limits_of, refusal_of, schema_of}
use Rattle.p21_stream.specs.Session.{IsLive}
use Rattle.p21_tokens.specs.Histories.{AreSeparators}

-- the bytes taken, the refused one among them, and the refusal
pub record SessionHistory : Type 0 where
  pub taken : List ℕ
  pub refusal : Option Refusal

-- the history of a session that has taken nothing
abbrev pub nothing_taken : SessionHistory
nothing_taken = record { taken = []; refusal = None }

-- ---- what a call adds

-- a piece that is taken
abbrev pub fed_history : SessionHistory → List ℕ → SessionHistory
fed_history history piece = record { taken = history.taken ++ piece; refusal = history.refusal }

-- so many bytes of a piece, with which it is refused
abbrev pub refused_history : SessionHistory → List ℕ → ℕ → Refusal → SessionHistory
refused_history history piece count refusal = record { taken = history.taken ++ take count piece; refusal = Some refusal }

-- ---- the relation

-- want of memory apart, nothing that is accepted begins with the bytes
abbrev pub RefusesDeadBytes : Schema → Limits → List ℕ → Refusal → Type 0
RefusesDeadBytes s limits taken refusal = refusal.fault ≢ NoMemory → IsDead s limits taken

-- the bytes are read, and what their statements leave is kept
abbrev pub StandsForBytes : SessionHeld → List ℕ → Type 0
StandsForBytes held taken = (given : List Statement)
    × IsLive held.schema held.limits held.statements held.kept (record { taken = taken; seen = None; given = given })

-- what is held stands for a history: what it says is what `new`, `feed`, `finish` and `held` say of it
unfoldable pub Stands : SessionHeld → SessionHistory → Type 0
Stands held history = (held.refused ≡ history.refusal) × (history.refusal ≡ None → StandsForBytes held history.taken)
    × ((refusal : Refusal) → history.refusal ≡ Some refusal → RefusesDeadBytes held.schema held.limits history.taken refusal)

-- ---- the calls

-- a call refuses the bytes of a piece up to some position: nothing that is accepted begins with the bytes taken and these
pub record RefusesWithin (old : SessionHeld) (history : SessionHistory) (piece : List ℕ) (refusal : Refusal)
    (new : SessionHeld) : Type 0 where
  pub count : ℕ
  pub within : count ≤ length piece
  pub dead : RefusesDeadBytes (schema_of old) (limits_of old) (history.taken ++ take count piece) refusal
  pub stands : Stands new (refused_history history piece count refusal)

-- what a piece gives, for each history that the session stood for
abbrev pub FeedGives : SessionHeld → List ℕ → Result (Unit {0}) Refusal → SessionHeld → Type 0
FeedGives old piece (Ok done) new = (history : SessionHistory) → Stands old history
    → (history.refusal ≡ None) × Stands new (fed_history history piece)
FeedGives old piece (Err refusal) new = (history : SessionHistory) → Stands old history → history.refusal ≡ None
    → RefusesWithin old history piece refusal new

-- a session that has refused answers the same again, and stays as it is
abbrev pub RefusesAgain : SessionHeld → Result (Unit {0}) Refusal → SessionHeld → Type 0
RefusesAgain old result new = (refusal : Refusal) → refusal_of old ≡ Some refusal → (result ≡ Err refusal) × (new ≡ old)

-- the schema and the limits stay
abbrev pub KeepsSchema : SessionHeld → SessionHeld → Type 0
KeepsSchema old new = (schema_of new ≡ schema_of old) × (limits_of new ≡ limits_of old)

-- what the end of the bytes gives, for each history that the session stood for
abbrev pub FinishGives : SessionHeld → Result Output Refusal → Type 0
FinishGives held (Ok accepted) = (history : SessionHistory) → Stands held history
    → (history.refusal ≡ None) × IsCanonicalOutput (schema_of held) (limits_of held) history.taken accepted
FinishGives held (Err refusal) = refusal.fault ≢ NoMemory → (history : SessionHistory) → Stands held history
    → ¬ IsAccepted (schema_of held) (limits_of held) history.taken

-- what is counted at the end, for each history that the session stood for
abbrev pub CountGives : SessionHeld → Result Counted Refusal → Type 0
CountGives held (Ok counted) = (history : SessionHistory) → Stands held history
    → (history.refusal ≡ None) × IsCounted (schema_of held) (limits_of held) history.taken counted
CountGives held (Err refusal) = FinishGives held (Err refusal)

-- what is kept at the end of a whole file, for each history that the session stood for
abbrev pub WholeGives : SessionHeld → Result Kept Refusal → Type 0
WholeGives held (Ok kept) = (history : SessionHistory) → Stands held history
    → (history.refusal ≡ None) × IsKeptOfWhole (schema_of held) (limits_of held) history.taken kept
WholeGives held (Err refusal) = FinishGives held (Err refusal)

-- a session that has refused answers the same at the end
abbrev pub RefusesAtEnd : SessionHeld → Result Output Refusal → Type 0
RefusesAtEnd held result = (refusal : Refusal) → refusal_of held ≡ Some refusal → result ≡ Err refusal

-- what is held of the bytes taken, where none was refused
abbrev pub HoldsFor : SessionHeld → files.Held → Type 0
HoldsFor held result = (history : SessionHistory) → Stands held history → history.refusal ≡ None
    → IsHeld (schema_of held) history.taken result

-- a piece is taken only where the statements that end in it are right
abbrev pub FeedChecks : SessionHeld → List ℕ → Result (Unit {0}) Refusal → Type 0
FeedChecks old piece (Ok done) = (history : SessionHistory) → Stands old history → ChecksStatements (schema_of old) (history.taken ++ piece)
FeedChecks old piece (Err refusal) = Unit {0}

-- where no byte was refused and no token byte is pending, a piece of separators alone asks for no memory
abbrev pub FeedNeedsNoMemory : SessionHeld → List ℕ → Result (Unit {0}) Refusal → Type 0
FeedNeedsNoMemory old piece (Ok done) = Unit {0}
FeedNeedsNoMemory old piece (Err refusal) = (history : SessionHistory) → Stands old history → history.refusal ≡ None
    → IsPending history.taken 0 → AreSeparators piece → refusal.fault ≢ NoMemory

-- behind a piece in which a byte is refused the session stands at that byte
abbrev pub FeedPlaces : SessionHeld → List ℕ → Result (Unit {0}) Refusal → SessionHeld → Type 0
FeedPlaces old piece (Ok done) new = Unit {0}
FeedPlaces old piece (Err refusal) new =
    (history : SessionHistory) → Stands old history → history.refusal ≡ None
    → HasPlace ((limits_of old).record_source, (limits_of old).file_source) history.taken piece refusal.fault
    (place_behind new.statements)

-- the place of the refusal that was answered: of a byte the one at which the session stands
abbrev pub HasPlaceOf : SessionHeld → Option Place → Type 0
HasPlaceOf held found = elim held.refused [
  | None ↦ found ≡ None
  | Some refusal ↦ IsPlaceOf refusal.fault (place_behind held.statements) found
]
