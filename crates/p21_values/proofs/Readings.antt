-- What the readers make of the parts of a number is the number that the bytes spell.
use Rattle.std.proofs.Common.{◌≡◌, ℕ, ◌-◌, ℤ, Bool, List, length, take, Some, None, Result, Ok, Err, subst, arith}
use Rattle.std.proofs.lemmas.List.{take_all}
use Rattle.p21_spec_exchange.specs.Number.{Decimal, Exponent, IsInRange, IsShortExponent, RealForm, exponent_value, real_ratio}
use Rattle.p21_spec_exchange.proofs.Forms.{same_form}
use Rattle.p21_spec_exchange.proofs.RealSpellings.{form_ratio_once}
use Rattle.p21_scan.proofs.Numbers.{real_form}
use Rattle.p21_scan.specs.Number.{IsRealAt, ReadsExponent}
use Rattle.p21_values.specs.declared.fault.ValueFault.{ValueFault}
use Rattle.p21_values.specs.declared.fault.ValueFault.TheVariants.{BadBinary, BadName, BadNumber, BadWord, NameRange, NoMemory, NumberRange}
use Rattle.p21_values.specs.Decimal.{ReducesRatio, ReadsReal}
use Rattle.p21_values.specs.RealComponents.{digits_ratio}

real_of_ratio : (bytes : List ℕ) (f : RealForm bytes) (r : Result Decimal ValueFault) → IsShortExponent f.power → ReducesRatio (real_ratio f) r → ReadsReal bytes r
real_of_ratio bytes f (Ok value) short (reduced, in_range, same) = record { form = f; is_short = short; in_range = in_range; is_reduced = reduced; same = same }
real_of_ratio bytes f (Err NoMemory) short h = tt
real_of_ratio bytes f (Err NumberRange) short h = (f, λ value spelled. h (subst IsInRange (form_ratio_once bytes spelled.form f) spelled.in_range))
real_of_ratio bytes f (Err BadNumber) short h = absurd h
real_of_ratio bytes f (Err BadBinary) short h = absurd h
real_of_ratio bytes f (Err NameRange) short h = absurd h
real_of_ratio bytes f (Err BadName) short h = absurd h
real_of_ratio bytes f (Err BadWord) short h = absurd h

module _ (bytes whole fraction rest : List ℕ) (negative : Bool) (power : Exponent) (x : IsRealAt bytes negative whole fraction power rest) where
  -- the number of the parts is that of the bytes up to what stands behind
  pub reads_front : (k : ℤ) (r : Result Decimal ValueFault) → ReadsExponent power (Some k) → ReducesRatio (digits_ratio negative whole fraction k) r → ReadsReal (take (length bytes - length rest) bytes) r
  reads_front k r (short, value) h =
      real_of_ratio _ (real_form bytes whole fraction rest negative power x) r short (
      subst (λ (b : Bool). ReducesRatio (digits_ratio b whole fraction (exponent_value power)) r) x.whole_at.negative_is (subst (λ (z : ℤ). ReducesRatio (digits_ratio negative whole fraction z) r) value h))

  -- where nothing stands behind, they are all the bytes
  all_bytes : length rest ≡ 0 → take (length bytes - length rest) bytes ≡ bytes
  all_bytes none_left = take_all (length bytes - length rest) bytes (omega arith)

  pub reads_all : (k : ℤ) (r : Result Decimal ValueFault) → length rest ≡ 0 → ReadsExponent power (Some k) → ReducesRatio (digits_ratio negative whole fraction k) r → ReadsReal bytes r
  reads_all k r none_left e h = subst (λ (b : List ℕ). ReadsReal b r) (all_bytes none_left) (reads_front k r e h)

  pub exponent_too_long : length rest ≡ 0 → ReadsExponent power None → ReadsReal bytes (Err NumberRange)
  exponent_too_long none_left long =
      subst (λ (b : List ℕ). ReadsReal b (Err NumberRange)) (all_bytes none_left)
      (real_form bytes whole fraction rest negative power x, λ value spelled. long (subst IsShortExponent (same_form _ spelled.form (real_form bytes whole fraction rest negative power x)).power spelled.is_short))
