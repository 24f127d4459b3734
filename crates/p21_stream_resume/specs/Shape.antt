-- What a seeker knows of the bytes of the signpost that is open, and of one that is found.
use Rattle.std.specs.Prelude.{◌≡◌, ℕ, ◌^◌, ◌<◌, ◌≤◌, true, false, List, [], ◌∷◌, ◌++◌, length, take, get_or, codes}
use Rattle.std.specs.List.{AllByRecursion as Each}
use Rattle.p21_spec_basics.specs.Digits.{AllDigits, number}
use Rattle.p21_spec_survey.specs.Landmark as landmark
use Rattle.p21_spec_survey.specs.Landmark.{IsBlank, Signpost}
use Rattle.p21_stream_resume.specs.Step.{word_bytes}
use Rattle.p21_stream_resume.specs.declared.mode.Mode.{Mode}
use Rattle.p21_stream_resume.specs.declared.mode.Mode.TheVariants as mode
use Rattle.p21_stream_resume.specs.declared.signpost.Numeral.{Numeral}
use Rattle.p21_stream_resume.specs.declared.signpost.Signpost as code
use Rattle.p21_stream_resume.specs.declared.signpost.Signpost.TheVariants as found

-- so many, where 64 bits can say it
abbrev pub IsCount : ℕ → ℕ → Type 0
IsCount actual count = actual < 2 ^ 64 → count ≡ actual

-- the first of these digits, with one more that leads to a number of 2 ^ 64 or more
pub record IsTooLong (digits : List ℕ) (name : Numeral) : Type 0 where
  pub front : List ℕ
  pub digit : ℕ
  pub more : List ℕ
  pub digits_are : digits ≡ front ++ digit ∷ more
  pub count_is : IsCount (length front) name.count
  pub value_is : name.value ≡ number front
  pub too_large : 2 ^ 64 ≤ number (front ++ digit ∷ [])

pub record IsWhole (digits : List ℕ) (name : Numeral) : Type 0 where
  pub count_is : IsCount (length digits) name.count
  pub value_is : name.value ≡ number digits

-- what is kept of digits
abbrev pub IsNumeral : List ℕ → Numeral → Type 0
IsNumeral digits name = (name.fits ≡ true → IsWhole digits name) × (name.fits ≡ false → IsTooLong digits name)

-- of so many digits that stand for this number it is the one behind so many of them: so they are known by these two
abbrev pub IsDigitOf : ℕ → ℕ → ℕ → ℕ → Type 0
IsDigitOf count value place digit = (digits : List ℕ) → AllDigits digits → length digits ≡ count → number digits ≡ value
    → get_or digits place 0 ≡ digit

-- the signpost that was found is this one
abbrev pub Describes : code.Signpost → Signpost → Type 0
Describes (found.Instance name blanks) (landmark.landmark (landmark.instance digits gap)) =
    IsNumeral digits name × IsCount (length gap) blanks
Describes (found.SectionEnd blanks) (landmark.landmark (landmark.section_end gap)) = IsCount (length gap) blanks
Describes found.FileBegin landmark.file_begin = Unit {0}
Describes found.FileEnd landmark.file_end = Unit {0}
Describes other signpost = ⊥

-- the digits of a name, and what is known of them
pub record HasDigits (bytes : List ℕ) (name : Numeral) (digits gap : List ℕ) : Type 0 where
  pub bytes_are : bytes ≡ 35 ∷ (digits ++ gap)
  pub some : 0 < length digits
  pub are_digits : AllDigits digits
  pub numeral : IsNumeral digits name
  pub blanks : Each IsBlank gap

-- the bytes of the open signpost
abbrev pub HasShape : Mode → List ℕ → Type 0
HasShape mode.Closed bytes = bytes ≡ []
HasShape mode.Opened bytes = bytes ≡ []
HasShape mode.Hash bytes = bytes ≡ 35 ∷ []
HasShape (mode.Digits name) bytes = (digits : List ℕ) × HasDigits bytes name digits []
HasShape (mode.NameGap name blanks opened) bytes = (digits gap : List ℕ) × HasDigits bytes name digits gap × IsCount (length gap) blanks
HasShape (mode.Word of taken) bytes = (bytes ≡ take taken (word_bytes of)) × (0 < taken) × (taken ≤ length (word_bytes of))
HasShape (mode.SectionGap blanks opened) bytes =
    (gap : List ℕ) × (bytes ≡ codes "ENDSEC" ++ gap) × Each IsBlank gap × IsCount (length gap) blanks
