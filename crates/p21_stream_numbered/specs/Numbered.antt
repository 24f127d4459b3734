-- The numbered file of what a reader gives.
use Rattle.std.specs.Prelude.{◌≡◌, ◌⊎◌, ℕ, List, Option}
use Rattle.p21_spec_basics.specs.Limits.{Limits}
use Rattle.p21_spec_numbering.specs.Claim.{IsNumberedFile}
use Rattle.p21_spec_numbering.specs.Laws.{ranking_of}
use Rattle.p21_spec_schema.specs.Schema.{Schema}
use Rattle.p21_numbered_file.specs.Numbering.{IsAlike, IsTooLong}
use Rattle.p21_numbered_file.specs.declared.numbering.Unnumbered.{Unnumbered}
use Rattle.p21_numbered_file.specs.declared.numbering.Unnumbered.TheVariants as unnumbered
use Rattle.p21_stream.specs.ReaderInput.{IsCountedInput, IsReadWhole, RefusesRead, read_failures}
use Rattle.p21_stream.specs.declared.counting.Counted.{Counted}
use Rattle.p21_stream_output.specs.Output.{Output, output_text}
use Rattle.p21_stream_statements.specs.declared.fault.Fault.TheVariants.{CanonicalTooLong, NoMemory}
use Rattle.p21_stream_numbered.specs.declared.refusal.NumberingRefusal.{NumberingRefusal}
use Rattle.p21_stream_numbered.specs.declared.refusal.NumberingRefusal.TheVariants.{Alike, Refused}

-- the reader was read to its end, and this is the numbered file of the bytes that it gave
pub record IsNumberedInput (s : Schema) (limits : Limits) (old new : Option (List ℕ)) (output : Output) : Type 0 where
  pub bytes : List ℕ
  pub read : IsReadWhole old new bytes
  pub numbered : IsNumberedFile s limits (ranking_of s) bytes (output_text output)

-- it was read to its end, and this is counted of the bytes that it gave, which are accepted and have a numbered file
pub record IsCountedApart (s : Schema) (limits : Limits) (old new : Option (List ℕ)) (counted : Counted) : Type 0 where
  pub counts : IsCountedInput s limits old new counted
  pub file : List ℕ
  pub numbered : IsNumberedFile s limits (ranking_of s) counts.bytes file

-- it was read to its end, and what it gave has no numbered file within the limits
pub record IsLongInput (s : Schema) (limits : Limits) (old new : Option (List ℕ)) : Type 0 where
  pub bytes : List ℕ
  pub read : IsReadWhole old new bytes
  pub too_long : IsTooLong s limits bytes

-- it was read to its end, and what it gave isn't decided: the two names have one rank
pub record IsAlikeInput (s : Schema) (limits : Limits) (old new : Option (List ℕ)) (j k : ℕ) : Type 0 where
  pub bytes : List ℕ
  pub read : IsReadWhole old new bytes
  pub alike : IsAlike s limits bytes j k

-- what a refusal says: a file is refused as by `accept`, or its numbered file is too long, or it isn't decided
abbrev pub RefusesNumbers : Schema → Limits → Option (List ℕ) → Option (List ℕ) → NumberingRefusal → Type 0
RefusesNumbers s limits old new (Refused refusal) = RefusesRead s limits old new refusal.fault
    ⊎ ((refusal.fault ≡ CanonicalTooLong) × IsLongInput s limits old new)
RefusesNumbers s limits old new (Alike j k) = IsAlikeInput s limits old new j k

-- the failures of a reader behind a refusal: one more where a read failed
abbrev pub numbering_failures : ℕ → NumberingRefusal → ℕ
numbering_failures count (Refused refusal) = read_failures count refusal.fault
numbering_failures count (Alike j k) = count

-- the refusal of a file that has no numbered file
abbrev pub IsRefusalOf : Unnumbered → NumberingRefusal → Type 0
IsRefusalOf (unnumbered.Alike j k) refusal = refusal ≡ Alike j k
IsRefusalOf unnumbered.TooLong (Refused refusal) = refusal.fault ≡ CanonicalTooLong
IsRefusalOf unnumbered.TooLong (Alike j k) = ⊥
IsRefusalOf unnumbered.NoMemory (Refused refusal) = refusal.fault ≡ NoMemory
IsRefusalOf unnumbered.NoMemory (Alike j k) = ⊥
