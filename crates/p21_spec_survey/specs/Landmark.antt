-- Where the reading of a file goes on behind a statement that is refused (this project's own, on the tokens of ISO 10303-21).
--
-- What is refused has no end that the grammar tells: its `;` may be what is missing, or it stands in a string that nothing ends. So what
-- is looked for is where a statement begins, and by bytes alone: `#`, digits, blanks and `=`, or `ENDSEC`, blanks and `;`. No parameter
-- has such bytes, a string or a remark in it apart. They are a landmark behind a `;`, as where a statement ends, behind the end of a line,
-- as where its `;` is lost, or behind a `)`, as where that is lost too and all stands in one line: so an `=` for a comma in a list makes
-- none, unless the name in front of it begins a line. Where a file begins or ends in the same manner no landmark behind it is of this file
-- any more, so the first of all these counts: a signpost.
use Rattle.std.specs.Prelude.{◌≡◌, ◌⊎◌, ◌<◌, ℕ, List, [], ◌∷◌, ◌++◌, length, codes}
use Rattle.std.specs.List.{AllByRecursion as Each}
use Rattle.p21_spec_basics.specs.Digits.{AllDigits}
use Rattle.p21_spec_exchange.specs.Separator.{IsSeparator, blank}

-- a byte that may stand between tokens, by itself
abbrev pub IsBlank : ℕ → Type 0
IsBlank byte = IsSeparator (blank byte)

-- `;`, `)`, or a byte that ends a line
abbrev pub IsOpener : ℕ → Type 0
IsOpener byte = (byte ≡ 59) ⊎ (byte ≡ 41) ⊎ (byte ≡ 10) ⊎ (byte ≡ 13)

-- such a byte stands last, blanks apart
pub record IsOpened (before : List ℕ) : Type 0 where
  pub front : List ℕ
  pub opener : ℕ
  pub blanks : List ℕ
  pub before_are : before ≡ front ++ opener ∷ blanks
  pub opens : IsOpener opener
  pub are_blanks : Each IsBlank blanks

-- how a statement of a data section begins: an instance with the digits of its name, or the end of the section; with the blanks in
-- front of the `=` or the `;`
pub data Landmark : Type 0 where
  instance : List ℕ → List ℕ → Landmark
  section_end : List ℕ → Landmark

abbrev pub landmark_bytes : Landmark → List ℕ
landmark_bytes (instance digits blanks) = 35 ∷ (digits ++ (blanks ++ 61 ∷ []))
landmark_bytes (section_end blanks) = codes "ENDSEC" ++ (blanks ++ 59 ∷ [])

abbrev pub IsLandmark : Landmark → Type 0
IsLandmark (instance digits blanks) = (0 < length digits) × AllDigits digits × Each IsBlank blanks
IsLandmark (section_end blanks) = Each IsBlank blanks

-- a landmark, or how a file begins or ends
pub data Signpost : Type 0 where
  landmark : Landmark → Signpost
  file_begin : Signpost
  file_end : Signpost

abbrev pub signpost_bytes : Signpost → List ℕ
signpost_bytes (landmark found) = landmark_bytes found
signpost_bytes file_begin = codes "ISO-10303-21"
signpost_bytes file_end = codes "END-ISO-10303-21"

abbrev pub IsSignpost : Signpost → Type 0
IsSignpost (landmark found) = IsLandmark found
IsSignpost file_begin = Unit {0}
IsSignpost file_end = Unit {0}

-- the signpost stands at the front of these bytes, where others stand before them
pub record StandsAt (before bytes : List ℕ) (signpost : Signpost) : Type 0 where
  pub is_signpost : IsSignpost signpost
  pub opened : IsOpened before
  pub rest : List ℕ
  pub bytes_are : bytes ≡ signpost_bytes signpost ++ rest

-- no signpost begins in the bytes passed, where others stand before them and behind them
abbrev pub BeginsNoSignpost : List ℕ → List ℕ → List ℕ → Type 0
BeginsNoSignpost before passed behind = (front back : List ℕ) (byte : ℕ) (signpost : Signpost) → passed ≡ front ++ byte ∷ back
    → StandsAt (before ++ front) (byte ∷ (back ++ behind)) signpost → ⊥

-- the first signpost in these bytes, where others stand before them: so many are passed in front of it, and the rest stands behind it
pub record IsFirstSignpost (before bytes passed : List ℕ) (signpost : Signpost) (rest : List ℕ) : Type 0 where
  pub bytes_are : bytes ≡ passed ++ (signpost_bytes signpost ++ rest)
  pub stands : StandsAt (before ++ passed) (signpost_bytes signpost ++ rest) signpost
  pub none_before : BeginsNoSignpost before passed (signpost_bytes signpost ++ rest)
