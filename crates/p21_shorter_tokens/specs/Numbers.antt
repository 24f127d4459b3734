-- Reals, and whole numbers where a NUMBER may stand.
use Rattle.std.specs.Prelude.{◌≡◌, ◌⊎◌, ℕ, ◌+◌, ◌/◌, ◌%◌, nat_lt, drop, ◌^◌, ◌<◌, ℤ, nat_abs, Bool, true, false, List, [], ◌∷◌, ◌++◌, Ok, Some, if◌then◌else◌}
use Rattle.p21_spec_exchange.specs.Number.{Decimal, Exponent, IsExponentInRange, IsReduced, IsInRange, Ratio, SameRatio, ratio_of, whole_ratio}
use Rattle.p21_spec_exchange.specs.Spelling.{exponent_spelling, spelling}
use Rattle.p21_spec_exchange.specs.Token.{real, whole}
use Rattle.p21_values.specs.Canonical.{Continues}
use Rattle.p21_values.specs.Decimal.{ReducesRatio}
use Rattle.p21_scan.specs.Digits.{BeginsWithoutByte, WithoutTrailingZeros}
use Rattle.p21_scan.specs.Number.{IsExponentAt, ReadsExponent}
use Rattle.p21_values.specs.Stored.{significand_spelling}
use Rattle.p21_shorter_tokens.specs.LeadingToken.{AppendsToken, IsLeadingToken}

-- A real stands at the front, and its canonical spelling is appended. Where whole numbers may stand too, as at a NUMBER
-- (ISO 10303-21, mapping of EXPRESS data types), one may stand there, and the real of the same ratio is written
pub data AppendsNumberToken (wholes : Bool) (bytes : List ℕ) (count : ℕ) (old new : List ℕ) : Type 0 where
  a_real : (d : Decimal) → AppendsToken bytes count (real d) old new → AppendsNumberToken wholes bytes count old new
  a_whole : (z : ℤ) (d : Decimal) → wholes ≡ true → IsLeadingToken bytes count (whole z) → IsReduced d → IsInRange (ratio_of d) → SameRatio (ratio_of d) (whole_ratio z) → new ≡ old ++ spelling (real d)
      → AppendsNumberToken wholes bytes count old new

-- the canonical spelling of the number of this ratio is appended, or a part of it
abbrev pub AppendsNumber : Bool → Ratio → List ℕ → List ℕ → Type 0
AppendsNumber true ratio old new = (d : Decimal) × ReducesRatio ratio (Ok d) × (new ≡ old ++ spelling (real d))
AppendsNumber false ratio old new = Continues old new

-- the same with a byte behind it
abbrev pub AppendsNumberBefore : ℕ → Ratio → List ℕ → List ℕ → Type 0
AppendsNumberBefore mark ratio old new = (between : List ℕ) × AppendsNumber true ratio old between × (new ≡ between ++ mark ∷ [])

-- A real stands at the front, and a `,` or a `)` right behind it ends so many bytes. Its canonical spelling and this byte are appended
pub record AppendsMarkedReal (bytes : List ℕ) (count : ℕ) (old new : List ℕ) : Type 0 where
  pub size : ℕ
  pub between : List ℕ
  pub mark : ℕ
  pub real : (wholes : Bool) → AppendsNumberToken wholes bytes size old between
  pub is_mark : (mark ≡ 44) ⊎ (mark ≡ 41)
  pub marks : drop size bytes ≡ mark ∷ drop count bytes
  pub ends : count ≡ size + 1
  pub appended : new ≡ between ++ mark ∷ []

-- the digits of a number that has at most two
abbrev pub few_digits : ℕ → List ℕ
few_digits value = if nat_lt value 10 then (48 + value) ∷ [] else (48 + value / 10) ∷ (48 + value % 10) ∷ []

-- a minus or none, the digits without the zeros at the end, the first of them before the point
abbrev pub signed_significand : Bool → List ℕ → List ℕ
signed_significand negative digits = (if negative then 45 ∷ [] else []) ++ significand_spelling digits

-- digits without the zeros at their end are appended so, with this exponent, or a part of that
abbrev pub AppendsNormalised : Bool → Bool → List ℕ → ℤ → List ℕ → List ℕ → Type 0
AppendsNormalised true negative digits exponent old new =
    (kept : List ℕ) × WithoutTrailingZeros digits kept × IsExponentInRange exponent × (new ≡ old ++ (signed_significand negative kept ++ exponent_spelling exponent))
AppendsNormalised false negative digits exponent old new = Continues old new

-- the same with no exponent
abbrev pub AppendsWithoutExponent : Bool → Bool → List ℕ → List ℕ → List ℕ → Type 0
AppendsWithoutExponent true negative digits old new = (kept : List ℕ) × WithoutTrailingZeros digits kept × (new ≡ old ++ signed_significand negative kept)
AppendsWithoutExponent false negative digits old new = Continues old new

-- an exponent or none, of this value, and behind it what doesn't go on with the real
pub record EndsReal (bytes : List ℕ) (value : ℤ) (rest : List ℕ) : Type 0 where
  pub power : Exponent
  pub power_at : IsExponentAt bytes power rest
  pub value_is : ReadsExponent power (Some value)
  pub small : nat_abs value < 10 ^ 9
  pub no_exponent : BeginsWithoutByte 69 rest
