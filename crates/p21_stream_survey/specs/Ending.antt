-- How a list ends (this project's own).
use Rattle.std.specs.Prelude.{◌≡◌, ◌∷◌, ◌++◌, ℕ, List, [], map}
use Rattle.p21_spec_basics.specs.Limits.{Limits}
use Rattle.p21_spec_survey.specs.Rules.{Rules}
use Rattle.p21_spec_survey.specs.Survey as survey
use Rattle.p21_spec_survey.specs.Survey.{BeginsAt, EndsReading, IsRead, IsSurvey, IsToBePassed, Reading}
use Rattle.p21_stream_survey.specs.Sifted.{Sifted}
use Rattle.p21_stream_statements.specs.Fault.{fault_number}
use Rattle.p21_stream_statements.specs.declared.fault.Fault.{Fault}
use Rattle.p21_stream_statements.specs.declared.fault.Fault.TheVariants.{Read}
use Rattle.p21_stream_statements.specs.declared.refusal.At.{At}
use Rattle.p21_stream_survey.specs.Reading.{HasRead, listed_as, subject_of}
use Rattle.p21_stream_survey.specs.declared.listed.Extent.{Extent}
use Rattle.p21_stream_survey.specs.declared.listed.Extent.TheVariants.{Most, ReadTo, Whole}
use Rattle.p21_stream_survey.specs.declared.listed.Listed.{Listed}
use Rattle.p21_stream_survey.specs.declared.listing.Listing.{Listing}

-- how far a file is read, as the definitions have it
abbrev pub extent_of : Extent → survey.Extent
extent_of Whole = survey.whole
extent_of (ReadTo bytes) = survey.read_to bytes
extent_of Most = survey.most

-- the file is surveyed with this list, and no reference is refused
abbrev pub IsSurveyed : Rules → Limits → List ℕ → Listing → Extent → Type 0
IsSurveyed s limits file listing extent = IsSurvey s limits file (map listed_as listing.list.items) [] (extent_of extent)

-- behind these the list has the refusal of a read that failed, which ended the reading
pub record ListsRead (before : List Listed) (extent : Extent) (behind : List Listed) : Type 0 where
  pub refusal : Listed
  pub list_is : behind ≡ before ++ refusal ∷ []
  pub fault_is : refusal.fault ≡ Read
  pub extent_is : extent ≡ ReadTo refusal.begins

-- so far a file is read, and this is known of it; the next statement begins behind so many bytes
pub record IsReadSo (s : Rules) (limits : Limits) (file : List ℕ) (read : Reading) (sieve : Sifted) (listing : Listing) (begins : ℕ) : Type
    0 where
  pub is_read : IsRead s limits file read
  pub has : HasRead s limits read sieve listing
  pub begins_at : BeginsAt file read begins

-- a refusal ends the reading there
abbrev pub EndsBy : Listing → Fault → At → ℕ → Extent → Listing → Type 0
EndsBy before fault at begins extent behind =
    (s : Rules) (limits : Limits) (file : List ℕ) (read : Reading) (sieve : Sifted) → IsReadSo s limits file read sieve before begins
    → EndsReading s limits file read (fault_number fault) (subject_of at) → IsSurveyed s limits file behind extent

-- the statement is to be passed over there, and no more are asked for
abbrev pub EndsAtStretch : Listing → Fault → At → ℕ → Extent → Listing → Type 0
EndsAtStretch before fault at begins extent behind =
    (s : Rules) (limits : Limits) (file : List ℕ) (read : Reading) (sieve : Sifted) → IsReadSo s limits file read sieve before begins
    → IsToBePassed s limits file read (fault_number fault) (subject_of at) → IsSurveyed s limits file behind extent

-- the same, and a read failed behind it
abbrev pub EndsInterrupted : Listing → Fault → At → ℕ → Extent → Listing → Type 0
EndsInterrupted = EndsAtStretch
