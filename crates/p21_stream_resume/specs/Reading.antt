-- The first signpost that a whole byte list gives, read byte by byte: a plain function between the states of a seeker and the signposts that
-- stand in the bytes, which nobody has to believe.
use Rattle.std.specs.Prelude.{ℕ, ◌+◌, Bool, true, false, List, [], ◌∷◌}
use Rattle.p21_stream_resume.specs.Step.{class_of, step}
use Rattle.p21_stream_resume.specs.declared.mode.Mode.{Mode}
use Rattle.p21_stream_resume.specs.declared.mode.Mode.TheVariants as mode
use Rattle.p21_stream_resume.specs.declared.mode.Step.{Step}
use Rattle.p21_stream_resume.specs.declared.mode.Step.TheVariants.{Goes, Ends}
use Rattle.p21_stream_resume.specs.declared.signpost.Signpost.{Signpost}

-- how bytes end: in a state, so many bytes behind where the signpost began that is open; or with a signpost of so many bytes, and what stands
-- behind it
pub data Ending : Type 0 where
  open_at : Mode → ℕ → Ending
  found : Signpost → ℕ → List ℕ → Ending

-- the bytes of the open signpost, where they were so many before this step
abbrev pub size_in : Mode → ℕ → ℕ
size_in mode.Closed size = 0
size_in mode.Opened size = 0
size_in mode.Hash size = 1
size_in (mode.Digits name) size = size + 1
size_in (mode.NameGap name blanks opened) size = size + 1
size_in (mode.Word of taken) size = taken
size_in (mode.SectionGap blanks opened) size = size + 1

-- where a seeker begins
abbrev pub start : Bool → Mode
start true = mode.Opened
start false = mode.Closed

abbrev pub onward : Step → ℕ → List ℕ → (Mode → ℕ → Ending) → Ending
onward (Goes next) size rest go = go next (size_in next size)
onward (Ends signpost) size rest go = found signpost (size + 1) rest

-- the first signpost of these bytes, from a state on
unfoldable pub read : Mode → ℕ → List ℕ → Ending
read mode size [] = open_at mode size
read mode size (byte ∷ bytes) = onward (step mode (class_of byte) byte) size bytes (λ next size. read next size bytes)
