-- Two files compared but for the names of their instances.
use Rattle.std.specs.Prelude.{◌≡◌, ◌⊎◌, ◌↔◌, ℕ, Bool, IsTrue, List, Option}
use Rattle.p21_spec_basics.specs.Limits.{Limits}
use Rattle.p21_spec_file.specs.Accepted.{Means}
use Rattle.p21_spec_file.specs.File.{FileMeaning}
use Rattle.p21_spec_numbering.specs.Renamed.{SameButForNames}
use Rattle.p21_spec_schema.specs.Schema.{Schema}
use Rattle.p21_numbered_file.specs.declared.numbering.Unnumbered.{Unnumbered}
use Rattle.p21_numbered_file.specs.declared.numbering.Unnumbered.TheVariants as unnumbered
use Rattle.p21_stream.specs.Answers.{FailsToCompare, IsCanonicalOfRead, first_failures, second_failures}
use Rattle.p21_stream.specs.ReaderInput.{IsReadWhole}
use Rattle.p21_stream.specs.declared.comparing.Which.{Which}
use Rattle.p21_stream.specs.declared.comparing.Which.TheVariants.{First, Second}
use Rattle.p21_stream_statements.specs.declared.fault.Fault.TheVariants.{CanonicalTooLong}
use Rattle.p21_stream_numbered.specs.Numbered.{IsAlikeInput, IsLongInput}
use Rattle.p21_stream_numbered.specs.declared.refusal.NumberingRefusal.{NumberingRefusal}
use Rattle.p21_stream_numbered.specs.declared.refusal.NumberingRefusal.TheVariants.{Alike, Refused}

-- the reader was read to its end, and its bytes mean this within the limits
pub record IsMeantInput (s : Schema) (limits : Limits) (old new : Option (List ℕ)) : Type 0 where
  pub bytes : List ℕ
  pub read : IsReadWhole old new bytes
  pub meaning : FileMeaning
  pub means : Means s limits bytes meaning

-- both were read to their ends; the answer is whether they mean the same but for the names of their instances
pub record ComparesButForNames (s : Schema) (limits : Limits) (first_old first_new second_old second_new : Option (List ℕ))
    (same : Bool) : Type 0 where
  pub first : IsMeantInput s limits first_old first_new
  pub second : IsMeantInput s limits second_old second_new
  pub if_same : IsTrue same ↔ SameButForNames first.meaning second.meaning

-- the reader was read to its end, and what it gave has a canonical file: it is accepted
abbrev pub HasCanonical : Schema → Limits → Option (List ℕ) → Option (List ℕ) → Type 0
HasCanonical s limits old new = (text : List ℕ) × IsCanonicalOfRead s limits old new text

-- a file is refused as by `same_meaning`; or the numbered files of both are too long; or neither is decided. Of both the first is named
abbrev pub FailsToTell : Schema → Limits → Option (List ℕ) → Option (List ℕ) → Option (List ℕ) → Option (List ℕ) → Which → NumberingRefusal
    → Type 0
FailsToTell s limits first_old first_new second_old second_new which (Refused refusal) =
    FailsToCompare s limits first_old first_new second_old second_new which refusal.fault
    ⊎ ((which ≡ First) × (refusal.fault ≡ CanonicalTooLong) × IsLongInput s limits first_old first_new
    × IsLongInput s limits second_old second_new)
FailsToTell s limits first_old first_new second_old second_new which (Alike j k) =
    (which ≡ First) × IsAlikeInput s limits first_old first_new j k × ((i : ℕ) × (l : ℕ) × IsAlikeInput s limits second_old second_new i l)

-- the failures of each reader
abbrev pub first_numbering_failures : ℕ → Which → NumberingRefusal → ℕ
first_numbering_failures count which (Refused refusal) = first_failures count which refusal.fault
first_numbering_failures count which (Alike j k) = count

abbrev pub second_numbering_failures : ℕ → Which → NumberingRefusal → ℕ
second_numbering_failures count which (Refused refusal) = second_failures count which refusal.fault
second_numbering_failures count which (Alike j k) = count

-- of which file it is told that neither has a numbered file
abbrev pub IsFileOf : Unnumbered → Which → Type 0
IsFileOf (unnumbered.Alike j k) which = which ≡ First
IsFileOf unnumbered.TooLong which = which ≡ First
IsFileOf unnumbered.NoMemory which = which ≡ Second
