-- Texts and numbers where they stand in a canonical line, by their characters and digits (ISO 10303-21, clause 6: tokens).
use Rattle.std.specs.Prelude.{◌≡◌, ℕ, ℤ, pos, List, [], ◌∷◌, ◌++◌, Option, Some, None}
use Rattle.std.specs.Char.{IsScalar}
use Rattle.std.specs.List.{flat_map, AllByRecursion as Each}
use Rattle.p21_spec_basics.specs.Digits.{number}
use Rattle.p21_spec_exchange.specs.Number.{Decimal, SameRatio, ratio_of, signed}
use Rattle.p21_spec_exchange.specs.Spelling.{character_spelling}
use Rattle.p21_values.specs.RealComponents.{digits_ratio}
use Rattle.p21_model_values.specs.declared.digits.Digits.{Digits}

-- these characters are left of a text, and behind them its apostrophe
pub record AreLeftCharacters (characters bytes : List ℕ) : Type 0 where
  pub scalars : Each IsScalar characters
  pub bytes_are : bytes ≡ flat_map character_spelling characters ++ (39 ∷ [])

-- the next of these characters is handed out, and the others are left
abbrev pub HandsOutCharacter : List ℕ → Option ℕ → List ℕ → Type 0
HandsOutCharacter [] None rest = AreLeftCharacters [] rest
HandsOutCharacter [] (Some found) rest = ⊥
HandsOutCharacter (character ∷ characters) None rest = ⊥
HandsOutCharacter (character ∷ characters) (Some found) rest = (found ≡ character) × AreLeftCharacters characters rest

-- the digits are those of the whole number
pub record AreDigitsOfWhole (digits : Digits) (z : ℤ) : Type 0 where
  pub value_is : signed digits.negative (number digits.whole.now) ≡ z
  pub no_fraction : digits.fraction.now ≡ []
  pub no_exponent : digits.exponent ≡ pos 0

-- the digits are those of the real: those on both sides of the point as one number, times ten to the exponent less the length of
-- the fraction
abbrev pub AreDigitsOfReal : Digits → Decimal → Type 0
AreDigitsOfReal digits d = SameRatio (digits_ratio digits.negative digits.whole.now digits.fraction.now digits.exponent) (ratio_of d)
