-- How a statement is passed over by bytes that are in hand (this project's own, on the tokens of ISO 10303-21).
use Rattle.std.specs.Prelude.{◌≡◌, ◌⊎◌, ◌<◌, ◌≤◌, ◌+◌, ◌-◌, ◌^◌, ℕ, true, List, [], ◌++◌, length, take, drop, Option, Some, None}
use Rattle.p21_spec_basics.specs.Limits.{Limits}
use Rattle.p21_spec_survey.specs.Rules.{Rules}
use Rattle.p21_spec_survey.specs.Landmark.{Landmark, landmark}
use Rattle.p21_spec_survey.specs.Resuming.{EndsInRemark, HasNoneInside}
use Rattle.p21_spec_survey.specs.Survey.{BeginsAt, EndsReading, IsPassedOver, IsToBePassed, Reading, Subject}
use Rattle.p21_stream_log.specs.Ending.{EndsBehind}
use Rattle.p21_stream_log.specs.Going.{BeginsAnew, GoOnGives, StoodFor, behind_stretch}
use Rattle.p21_stream_log.specs.Log.{Held, IsFileOf, Known, Logs, Point}
use Rattle.p21_stream_log.specs.declared.passage.Passage.{Passage}
use Rattle.p21_stream_log.specs.declared.passage.Passage.TheVariants.{GoesOn, AtFileMark, TooLong, Sought}
use Rattle.p21_stream_resume.specs.Lexing.{AreLexed}
use Rattle.p21_stream_resume.specs.Seeking as seeking
use Rattle.p21_stream_resume.specs.Seeking.{Seeks}
use Rattle.p21_stream_resume.specs.Standing.{FindsInRemark, FindsInString}
use Rattle.p21_stream_resume.specs.declared.signpost.Signpost as code
use Rattle.p21_stream_resume.specs.declared.signpost.Signpost.TheVariants.{FileBegin, FileEnd}
use Rattle.p21_tokens_automaton.specs.Reading.{State}

-- a file begins or ends with it
abbrev pub IsMark : code.Signpost → Type 0
IsMark FileBegin = Unit {0}
IsMark FileEnd = Unit {0}
IsMark other = ⊥

-- In a file the next statement is to be passed over, and begins behind so many bytes. These are its own up to what is refused, and behind
-- them stand these, and more
pub record IsNextIn (s : Rules) (limits : Limits) (file : List ℕ) (read : Reading) (statement behind more : List ℕ) (number : ℕ)
    (subject : Subject) (begins : ℕ) : Type 0 where
  pub to_pass : IsToBePassed s limits file read number subject
  pub statement_is : to_pass.statement ≡ statement
  pub rest : List ℕ
  pub behind_are : to_pass.behind ≡ behind ++ (more ++ rest)
  pub begins_at : BeginsAt file read begins

-- Of a point that was stood for: so it is in each file. A lexer takes the bytes of the statement, and where none are known behind it, it ends
-- in no remark, or the files end with it
pub record IsBrokenBy (s : Rules) (limits : Limits) (known : Known) (point : Point) (held : Held) (statement behind more : List ℕ)
    (number : ℕ) (subject : Subject) (begins : ℕ) : Type 0 where
  pub stood : StoodFor s limits known point held
  pub state : State
  pub lexed : AreLexed statement state
  pub to_end : behind ≡ [] → (inside : List ℕ) → EndsInRemark statement inside → EndsBehind known point statement
  pub next_in : (file : List ℕ) → IsFileOf known file → IsNextIn s limits file point.read statement behind more number subject begins

-- so many bytes are more than a file may have, or than 64 bits can say
abbrev pub IsTooMany : Limits → ℕ → Type 0
IsTooMany limits count = (limits.file_source < count) ⊎ (2 ^ 64 ≤ count)

-- in a file the next statement is passed over up to a landmark, but the file may not have as many bytes
pub record IsPassedTooFar (s : Rules) (limits : Limits) (file : List ℕ) (read : Reading) (number : ℕ) (subject : Subject) : Type 0 where
  pub passed : List ℕ
  pub found : Landmark
  pub rest : List ℕ
  pub over : IsPassedOver s limits file read passed (landmark found) rest number subject
  pub too_many : IsTooMany limits (length (read.bytes ++ passed))

-- The first signpost in a string of a statement is found; or else, where none are known behind it, the first one in the remark in which it
-- ends; or none stands so
abbrev pub FindsInside : List ℕ → List ℕ → Option (ℕ × code.Signpost) → Type 0
FindsInside statement behind (Some found) = FindsInString statement (Some found)
    ⊎ (FindsInString statement None × (behind ≡ []) × FindsInRemark statement (Some found))
FindsInside statement behind None = FindsInString statement None × (behind ≡ [] → FindsInRemark statement None)

-- no signpost stands inside the statement, and a seeker has taken these bytes behind it
abbrev pub IsSoughtBy : Point → List ℕ → List ℕ → seeking.Held → Type 0
IsSoughtBy point statement behind seeker = Seeks (point.read.bytes ++ statement) behind seeker
    × ((rest : List ℕ) → HasNoneInside statement (behind ++ rest))

-- where it isn't passed over nothing has changed
abbrev pub StaysAt : Passage → Held → Held → Type 0
StaysAt (GoesOn count) old new = Unit {0}
StaysAt other old new = new ≡ old

-- nothing is held of the bytes behind those that are passed
abbrev pub GoesOnAt : Held → Passage → Held → Type 0
GoesOnAt old (GoesOn count) new = BeginsAnew (old.start + count) new
GoesOnAt old other new = Unit {0}

-- What is given of a point of which the statement is broken so. It is passed over in the reading that is stood for; or in each file the
-- reading ends there, or the file may not have as many bytes; or a seeker has taken the bytes behind it
abbrev pub PassageFor : (s : Rules) (limits : Limits) (known : Known) (point : Point) (statement behind more : List ℕ) (number : ℕ)
    (subject : Subject) (begins : ℕ) → Passage → Held → Type 0
PassageFor s limits known point statement behind more number subject begins (GoesOn count) new =
    Logs s limits known new (behind_stretch point (take count (statement ++ behind)) number subject begins
    (drop count (statement ++ behind) ++ more))
PassageFor s limits known point statement behind more number subject begins AtFileMark new = (file : List ℕ) → IsFileOf known file
    → EndsReading s limits file point.read number subject
PassageFor s limits known point statement behind more number subject begins TooLong new = (file : List ℕ) → IsFileOf known file
    → IsPassedTooFar s limits file point.read number subject
PassageFor s limits known point statement behind more number subject begins (Sought seeker) new = IsSoughtBy point statement behind seeker

abbrev pub PassageGives : Held → List ℕ → List ℕ → Passage → Held → Type 0
PassageGives old statement behind passage new =
    StaysAt passage old new
    × ((s : Rules) (limits : Limits) (known : Known) (point : Point) (more : List ℕ) (number : ℕ) (subject : Subject) (begins : ℕ)
    → IsBrokenBy s limits known point old statement behind more number subject begins
    → PassageFor s limits known point statement behind more number subject begins passage new)

-- what stands behind the bytes that are passed
abbrev pub AheadIs : Passage → List ℕ → List ℕ → Type 0
AheadIs (GoesOn count) bytes ahead = drop count bytes ≡ ahead
AheadIs other bytes ahead = Unit {0}

-- What the next piece gives, where a seeker has taken what stands behind a broken statement, with it so many bytes. It has taken the piece
-- too; or behind so many bytes of the piece the signpost ends whose bytes it holds
abbrev pub FurtherGives : Held → seeking.Held → ℕ → List ℕ → Option (ℕ × Passage) → Held → seeking.Held → Type 0
FurtherGives old seeker taken piece None new after =
    (new ≡ old) × ((point : Point) (statement behind : List ℕ) → IsSoughtBy point statement behind seeker
    → IsSoughtBy point statement (behind ++ piece) after)
FurtherGives old seeker taken piece (Some (count, passage)) new after =
    StaysAt passage old new
    × ((s : Rules) (limits : Limits) (known : Known) (point : Point) (statement behind more : List ℕ) (number : ℕ) (subject : Subject)
    (begins : ℕ) → taken ≡ length (statement ++ behind) → IsSoughtBy point statement behind seeker
    → IsBrokenBy s limits known point old statement (behind ++ piece) more number subject begins
    → PassageFor s limits known point statement (behind ++ piece) more number subject begins passage new
    × AheadIs passage (statement ++ (behind ++ piece)) (after.begun ++ drop count piece))

-- how many bytes stand in front of a signpost of so many bytes, where these are taken and it ends behind so many others; more than 64 bits
-- can say, or so many
abbrev pub IsFrontSize : ℕ → ℕ → ℕ → Option ℕ → Type 0
IsFrontSize taken count size None = 2 ^ 64 ≤ taken + count - size
IsFrontSize taken count size (Some front) = front ≡ taken + count - size

-- of a signpost that no place of 64 bits is in front of
abbrev pub IsTooFarAt : code.Signpost → Passage → Type 0
IsTooFarAt signpost AtFileMark = IsMark signpost
IsTooFarAt signpost TooLong = IsMark signpost → ⊥
IsTooFarAt signpost other = ⊥

-- so many bytes behind those that are read a signpost stands: the reading goes on there, or it is that of a file, or it is too far
abbrev pub PassToGives : Held → ℕ → code.Signpost → Passage → Held → Type 0
PassToGives old count signpost (GoesOn passed) new = (passed ≡ count) × (IsMark signpost → ⊥) × GoOnGives old (old.start + count) true new
PassToGives old count signpost AtFileMark new = (new ≡ old) × IsMark signpost
PassToGives old count signpost TooLong new =
    (new ≡ old) × (IsMark signpost → ⊥) × ((s : Rules) (limits : Limits) (known : Known) (point : Point)
    → StoodFor s limits known point old → IsTooMany limits (old.start + count))
PassToGives old count signpost (Sought seeker) new = ⊥
