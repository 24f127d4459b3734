-- A statement of which a step refused some bytes (this project's own).
use Rattle.std.specs.Prelude.{◌≡◌, ◌⊎◌, true, false, ℕ, suc, List, [], ◌++◌}
use Rattle.p21_spec_basics.specs.Limits.{Limits}
use Rattle.p21_spec_survey.specs.Rules.{Rules}
use Rattle.p21_spec_survey.specs.Survey.{IsGoneOnBehind, at_statement}
use Rattle.p21_stream_log.specs.Going.{TellsData}
use Rattle.p21_stream_log.specs.Laws.{BeginsInEach}
use Rattle.p21_stream_log.specs.Log.{Held, IsRefused, Known, Point}
use Rattle.p21_stream_log.specs.Opening.{OpensAs}
use Rattle.p21_stream_log.specs.Passage.{IsBrokenBy, PassageFor}
use Rattle.p21_stream_log.specs.declared.opening.Opening.TheVariants.{SectionEnd, Statement, Untold}
use Rattle.p21_stream_log.specs.declared.passage.Passage.{Passage}
use Rattle.p21_stream_statements.specs.Fault.{fault_number}
use Rattle.p21_stream_statements.specs.declared.fault.Fault.{Fault}

-- its refusal is one that a survey goes on behind, it is told that it stands in a data section, and it begins with no ENDSEC
pub record MayBePassed (held : Held) (fault : Fault) (bytes : List ℕ) : Type 0 where
  pub gone_on : IsGoneOnBehind (fault_number fault)
  pub in_data : TellsData held true
  pub opens : OpensAs bytes Statement

-- or it is none such, or it is told that it stands in none, or that it begins with ENDSEC; or neither is told of how it begins
abbrev pub MayNotBePassed : Held → Fault → List ℕ → Type 0
MayNotBePassed held fault bytes = ¬ IsGoneOnBehind (fault_number fault) ⊎ TellsData held false ⊎ OpensAs bytes SectionEnd
    ⊎ OpensAs bytes Untold

-- some of a piece was refused at a point, behind which so much is known, in a statement that begins behind so many bytes and may be passed
-- over
pub record IsRefusedAt (s : Rules) (limits : Limits) (known : Known) (point : Point) (held : Held) (piece more : List ℕ) (fault : Fault)
    (begins : ℕ) : Type 0 where
  pub refused : IsRefused s limits known point piece fault held
  pub between : point.ended ≡ []
  pub ahead : point.ahead ≡ piece ++ more
  pub begins_in : BeginsInEach known point begins
  pub passed : MayBePassed held fault (held.buffer ++ piece)

-- So it is broken by the bytes in front of what is refused and by those behind, which are these together, and it is passed over by them
pub record IsPassedBy (s : Rules) (limits : Limits) (known : Known) (point : Point) (old : Held) (bytes more : List ℕ) (fault : Fault)
    (begins : ℕ) (passage : Passage) (new : Held) : Type 0 where
  pub front : List ℕ
  pub behind : List ℕ
  pub apart : bytes ≡ front ++ behind
  pub broken : IsBrokenBy s limits known point old front behind more (fault_number fault) (at_statement (suc point.read.count)) begins
  pub gives : PassageFor s limits known point front behind more (fault_number fault) (at_statement (suc point.read.count)) begins passage
      new

abbrev pub PassesBroken : Held → Fault → List ℕ → Passage → Held → Type 0
PassesBroken old fault bytes passage new =
    (s : Rules) (limits : Limits) (known : Known) (point : Point) (piece more : List ℕ) (begins : ℕ) → bytes ≡ old.buffer ++ piece
    → IsRefusedAt s limits known point old piece more fault begins
    → IsPassedBy s limits known point old bytes more fault begins passage new
