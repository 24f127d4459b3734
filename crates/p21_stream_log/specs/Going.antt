-- How a log goes on behind a statement that is passed over (this project's own, on the tokens of ISO 10303-21).
use Rattle.std.specs.Prelude.{◌≡◌, ◌⊎◌, ◌↔◌, ◌<◌, ℕ, Bool, true, false, IsTrue, List, [], ◌∷◌, ◌++◌, length, None}
use Rattle.p21_spec_basics.specs.Limits.{Limits}
use Rattle.p21_spec_exchange.specs.Record.{Record}
use Rattle.p21_spec_exchange.specs.Statement.{Statement, instance}
use Rattle.p21_spec_survey.specs.Rules.{Rules}
use Rattle.p21_spec_survey.specs.Landmark.{IsOpened, Landmark, landmark, landmark_bytes}
use Rattle.p21_spec_survey.specs.Survey.{BeginsAt, IsInData, IsPassedOver, Reading, Subject, passing_over}
use Rattle.p21_stream_log.specs.Log.{Held, IsFileOf, Known, Logs, Point}
use Rattle.p21_stream_statements.specs.Reopening.{StaysInStatement}
use Rattle.p21_stream_statements.specs.StatementReader as statements

-- no statement has ended that isn't judged yet, or an instance has
abbrev pub IsOfInstance : List Statement → Type 0
IsOfInstance ended = (ended ≡ []) ⊎ ((n : ℕ) × (record_ : Record) × (ended ≡ instance n record_ ∷ []))

-- what is held stands for the point, or stood for it before a step was refused
pub record StoodFor (s : Rules) (limits : Limits) (known : Known) (point : Point) (held : Held) : Type 0 where
  pub before : statements.Held
  pub logs : Logs s limits known (record { reader = before; start = held.start; buffer = held.buffer; opened = held.opened }) point
  pub stays : StaysInStatement before held.reader
  pub of_instance : IsOfInstance point.ended

-- In a file the next statement, which begins behind so many bytes, is passed over up to a landmark; from there on these bytes stand first
pub record GoesOnBehind (s : Rules) (limits : Limits) (file : List ℕ) (read : Reading) (passed ahead : List ℕ) (number : ℕ)
    (subject : Subject) (begins : ℕ) : Type 0 where
  pub found : Landmark
  pub rest : List ℕ
  pub over : IsPassedOver s limits file read passed (landmark found) rest number subject
  pub begins_at : BeginsAt file read begins
  pub further : List ℕ
  pub ahead_are : landmark_bytes found ++ rest ≡ ahead ++ further

-- the point behind bytes that are passed over
abbrev pub behind_stretch : Point → List ℕ → ℕ → Subject → ℕ → List ℕ → Point
behind_stretch point passed number subject begins ahead =
    record { read = passing_over point.read passed number subject begins; ended = []; seen = None; ahead = ahead }

-- Of each point that was stood for, up to this place of the file: in each file the next statement is passed over, and it is so in the
-- reading that is stood for. Or the file may not have as many bytes, and nothing has changed
abbrev pub GoOnGives : Held → ℕ → Bool → Held → Type 0
GoOnGives old place true new =
    (s : Rules) (limits : Limits) (known : Known) (point : Point) (passed ahead : List ℕ) (number : ℕ) (subject : Subject) (begins : ℕ)
    → StoodFor s limits known point old → place ≡ length (point.read.bytes ++ passed)
    → IsOpened (point.read.bytes ++ passed) → ((file : List ℕ) → IsFileOf known file
    → GoesOnBehind s limits file point.read passed ahead number subject begins)
    → Logs s limits known new (behind_stretch point passed number subject begins ahead)
GoOnGives old place false new = (new ≡ old) × ((s : Rules) (limits : Limits) (known : Known) (point : Point)
    → StoodFor s limits known point old → limits.file_source < place)

-- nothing is held of the bytes from this place of the file on
pub record BeginsAnew (place : ℕ) (held : Held) : Type 0 where
  pub start : held.start ≡ place
  pub buffer : held.buffer ≡ []

-- of each point that was stood for, whether a data section is open behind the statements given
abbrev pub TellsData : Held → Bool → Type 0
TellsData held found = (s : Rules) (limits : Limits) (known : Known) (point : Point) → StoodFor s limits known point held
    → (IsTrue found ↔ IsInData point.read.given)
