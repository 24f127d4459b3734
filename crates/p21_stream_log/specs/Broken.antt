-- A statement that a step refused, and the bytes of it that are told to be its own.
use Rattle.std.specs.Prelude.{◌≡◌, ◌≢◌, ◌⊎◌, ◌<◌, ◌-◌, ◌^◌, ◌==◌, ℕ, suc, Bool, true, false, List, [], ◌∷◌, ◌++◌, length, take, slice_get, Option, Some, None}
use Rattle.p21_spec_basics.specs.Limits.{Limits}
use Rattle.p21_spec_file.specs.Accepted.{IsDead}
use Rattle.p21_spec_schema.specs.Schema.{Schema}
use Rattle.p21_spec_survey.specs.Rules.{Rules}
use Rattle.p21_spec_survey.specs.Survey.{BeginsAt, BeginsWithEnd, IsGoneOnBehind, IsInData, IsToBePassed, Reading, at_statement}
use Rattle.p21_spec_survey.specs.Whole.{HoldTheSame}
use Rattle.p21_stream_log.specs.Front.{IsFront}
use Rattle.p21_stream_log.specs.Log.{Held, IsFileOf, IsRefused, Known, Point}
use Rattle.p21_stream_log.specs.Opening.{IsBegun}
use Rattle.p21_stream_statements.specs.Fault.{fault_number}
use Rattle.p21_stream_statements.specs.Place.{place_behind, place_of}
use Rattle.p21_stream_statements.specs.declared.fault.Fault.{Fault}
use Rattle.p21_stream_statements.specs.declared.fault.Fault.TheVariants.{Grammar}
use Rattle.p21_stream_statements.specs.declared.place.Place.{Place}
use Rattle.p21_tokens.specs.declared.places.Places.{Places}

-- they stand at the front of the bytes, and a statement begins so; behind them others stand, or they are none
pub record IsFrontOf (bytes front : List ℕ) : Type 0 where
  pub is_front : IsFront front
  pub rest : List ℕ
  pub bytes_are : bytes ≡ front ++ rest
  pub some : front ≢ [] → rest ≢ []

-- they are none, or so many of the bytes
abbrev pub HasSize : List ℕ → ℕ → List ℕ → Type 0
HasSize bytes count front = (front ≡ []) ⊎ (front ≡ take count bytes)

-- ---- what is refused

abbrev pub is_apostrophe : Option ℕ → Bool
is_apostrophe None = false
is_apostrophe (Some byte) = byte == 39

-- the place of a refusal, or where the reader stands
abbrev pub place_or : Option Place → ℕ → ℕ
place_or None byte = byte
place_or (Some place) byte = place.byte

-- the last byte of a token in front of which the reader stands, if its first one is an apostrophe; else the first one
abbrev pub token_place : ℕ → ℕ → Bool → ℕ
token_place first behind true = behind - 1
token_place first behind false = first

-- Where that stands which is refused, by where its reader stands: a byte, or a token of the grammar by its first byte, and a string by its
-- last one. The bytes begin behind so many of the file
abbrev pub refused_place : Fault → Places → ℕ → List ℕ → ℕ
refused_place (Grammar fault) places start bytes =
    token_place (place_or (place_of (Grammar fault) places) places.byte) places.byte
    (is_apostrophe (slice_get bytes (place_or (place_of (Grammar fault) places) places.byte - start)))
refused_place fault places start bytes = place_or (place_of fault places) places.byte

-- so it is by the places of the reader
abbrev pub TellsRefused : Held → Fault → List ℕ → ℕ → Type 0
TellsRefused held fault bytes place = (places : Places) × (places.byte ≡ place_behind held.reader)
    × (place ≡ refused_place fault places held.start bytes)

-- The reader stands in front of a byte that is refused, behind these of the statement. No accepted file begins with it behind them, with
-- separators in the place of the bytes that are passed over
pub record StandsAtByte (limits : Limits) (point : Point) (held : Held) (piece : List ℕ) : Type 0 where
  pub front : List ℕ
  pub byte : ℕ
  pub rest : List ℕ
  pub bytes_are : held.buffer ++ piece ≡ front ++ byte ∷ rest
  pub place_is : place_behind held.reader ≡ length (point.read.bytes ++ front)
  pub gapped : List ℕ
  pub same : HoldTheSame gapped point.read.kept
  pub dead : (s : Schema) (all : Limits) → all.record_source ≡ limits.record_source → all.file_source ≡ limits.file_source
      → IsDead s all (gapped ++ (front ++ byte ∷ []))

-- ---- where the statement begins

-- Of bytes behind those that are read of a file: the statement begins behind so many bytes of it, where it is told what begins it, or where
-- the file ends behind them. So it is of each place that 64 bits can say
abbrev pub BeginsIn : Held → List ℕ → ℕ → Type 0
BeginsIn held bytes begins =
    (file rest : List ℕ) (read : Reading) → held.start ≡ length read.bytes → length (read.bytes ++ bytes) < 2 ^ 64
    → file ≡ read.bytes ++ (bytes ++ rest)
    → IsBegun bytes ⊎ (rest ≡ []) → BeginsAt file read begins

-- ---- that it is to be passed over

-- in each file in which no ENDSEC comes next, the statement with these bytes at its front is to be passed over
abbrev pub IsBroken : Rules → Limits → Known → Point → List ℕ → ℕ → Type 0
IsBroken s limits known point front number =
    (file : List ℕ) → IsFileOf known file → (rest : List ℕ) → file ≡ point.read.bytes ++ rest → ¬ BeginsWithEnd rest
    → (passes : IsToBePassed s limits file point.read number (at_statement (suc point.read.count))) × (passes.statement ≡ front)

-- Of each point in a data section where a step refused some of the piece, with a refusal that a survey goes on behind: these bytes are
-- the front of the open statement, and it is to be passed over
abbrev pub BreaksOff : Held → List ℕ → List ℕ → Type 0
BreaksOff held piece front =
    IsFront front × ((s : Rules) (limits : Limits) (known : Known) (point : Point) (more : List ℕ) (fault : Fault)
    → IsRefused s limits known point piece fault held → point.ahead ≡ piece ++ more → IsGoneOnBehind (fault_number fault)
    → IsInData point.read.given → IsBroken s limits known point front (fault_number fault))
