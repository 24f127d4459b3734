-- What a seeker stands for, and what it answers.
use Rattle.std.specs.Prelude.{◌≡◌, ◌≢◌, ◌↔◌, ◌+◌, ℕ, Bool, IsTrue, List, [], ◌∷◌, ◌++◌, ◌==◌, if◌then◌else◌, length, take, Option, Some, None}
use Rattle.p21_spec_survey.specs.Landmark.{BeginsNoSignpost, IsFirstSignpost, IsOpened, Signpost, signpost_bytes}
use Rattle.p21_stream_resume.specs.Reading.{open_at, read, start}
use Rattle.p21_stream_resume.specs.Shape.{Describes, HasShape}
use Rattle.p21_stream_resume.specs.declared.mode.Mode.{Mode}
use Rattle.p21_stream_resume.specs.declared.mode.Mode.TheVariants.{Closed, Opened, Hash, Word}
use Rattle.p21_stream_resume.specs.declared.signpost.Signpost as code

-- what a seeker holds: where it stands, and the bytes of the signpost that is open
pub record Held : Type 0 where
  pub mode : Mode
  pub begun : List ℕ

-- the bytes of the open signpost behind a byte that led to a mode: of none; the byte alone; or the byte behind the others
abbrev pub begun_behind : Mode → List ℕ → ℕ → List ℕ
begun_behind Closed begun byte = []
begun_behind Opened begun byte = []
begun_behind Hash begun byte = byte ∷ []
begun_behind (Word of taken) begun byte = (if taken == 1 then [] else begun) ++ byte ∷ []
begun_behind mode begun byte = begun ++ byte ∷ []

-- what is held behind a byte that led to a mode
abbrev pub held_behind : Held → Mode → ℕ → Held
held_behind held mode byte = record { mode = mode; begun = begun_behind mode held.begun byte }

-- what a new seeker holds
abbrev pub new_seeker : Bool → Held
new_seeker opened = record { mode = start opened; begun = [] }

-- A seeker has taken these bytes behind those before them, and found no signpost. Callers pass it on, and never look inside
pub record Seeks (before passed : List ℕ) (held : Held) : Type 0 where
  pub opened : Bool
  pub opens : IsTrue opened ↔ IsOpened before
  pub skipped : List ℕ
  pub passed_are : passed ≡ skipped ++ held.begun
  pub reads : read (start opened) 0 passed ≡ open_at held.mode (length held.begun)
  pub shape : HasShape held.mode held.begun
  pub may_begin : held.begun ≢ [] → IsOpened (before ++ skipped)

-- a new seeker has taken none, where it was told so
abbrev pub BeginsSeeking : Bool → Held → Type 0
BeginsSeeking opened held = (before : List ℕ) → (IsTrue opened ↔ IsOpened before) → Seeks before [] held

-- Behind so many bytes of a piece the last byte of a signpost stands. With the bytes taken before the piece, the signpost is the first one that
-- stands in them, whatever bytes come; its bytes are held
pub record IsFound (before passed piece : List ℕ) (count : ℕ) (answer : code.Signpost) (held : Held) : Type 0 where
  pub signpost : Signpost
  pub describes : Describes answer signpost
  pub skipped : List ℕ
  pub first : (more : List ℕ) → IsFirstSignpost before (passed ++ (take (count + 1) piece ++ more)) skipped signpost more
  pub bytes_are : held.begun ≡ signpost_bytes signpost

-- no signpost is whole, and the seeker has taken the piece; or one is found
abbrev pub SeeksOn : Held → List ℕ → Option (ℕ × code.Signpost) → Held → Type 0
SeeksOn old piece None new = (before passed : List ℕ) → Seeks before passed old
    → Seeks before (passed ++ piece) new × BeginsNoSignpost before (passed ++ piece) []
SeeksOn old piece (Some (count, answer)) new = (before passed : List ℕ) → Seeks before passed old
    → IsFound before passed piece count answer new

-- a seeker has taken these bytes more, and found no signpost
abbrev pub SeeksAlong : Held → List ℕ → Held → Type 0
SeeksAlong old bytes new = (before passed : List ℕ) → Seeks before passed old → Seeks before (passed ++ bytes) new
