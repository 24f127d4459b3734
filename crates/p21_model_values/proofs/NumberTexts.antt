-- The digits of a number are those of its canonical spelling.
use Rattle.std.proofs.Common.{◌≡◌, ℕ, ◌-◌, ℤ, Bool, List, [], ◌∷◌, ◌++◌, length, take, None, Some, ap, sym, subst, ◌∙◌, arith, append-nil}
use Rattle.std.proofs.lemmas.List.{take_all}
use Rattle.p21_scan.proofs.Numbers.{real_form, spells_integer, whole_integer, whole_real}
use Rattle.p21_scan.specs.Number.{IsIntegerAt, IsRealAt, ReadsExponent}
use Rattle.p21_spec_basics.specs.Digits.{number}
use Rattle.p21_spec_exchange.proofs.CanonicalSpellings.{spells-itself}
use Rattle.p21_spec_exchange.proofs.Forms.{same_form}
use Rattle.p21_spec_exchange.proofs.RealSpellings.{form_ratio_once}
use Rattle.p21_spec_exchange.proofs.WholeSpellings.{whole_once, whole_spells}
use Rattle.p21_spec_exchange.specs.Number.{Decimal, Exponent, IsShortExponent, Ratio, SameRatio, SpellsReal, SpellsWhole, exponent_value, ratio_of, real_ratio, signed}
use Rattle.p21_spec_exchange.specs.Parameter as param
use Rattle.p21_spec_exchange.specs.Spelling.{real_spelling, whole_spelling}
use Rattle.p21_spec_exchange.specs.Token as token
use Rattle.p21_values.specs.RealComponents.{digits_ratio}
use Rattle.p21_model_values.specs.Written.{IsTextOf}

pub whole-spelled : (bytes : List ℕ) (z : ℤ) → IsTextOf bytes (param.whole z) → SpellsWhole bytes z
whole-spelled bytes z text =
    let Spells : List ℕ → Type 0 = λ xs. SpellsWhole xs z in
    subst Spells (sym (text.bytes_are ∙ append-nil (whole_spelling z))) (whole_spells z)

pub real-spelled : (bytes : List ℕ) (d : Decimal) → IsTextOf bytes (param.real d) → SpellsReal bytes d
real-spelled bytes d text =
    let Spells : List ℕ → Type 0 = λ xs. SpellsReal xs d in
    subst Spells (sym (text.bytes_are ∙ append-nil (real_spelling d))) (spells-itself (token.real d) text.written.0.0 text.written.0.1)

-- where nothing is left, what was taken is all
all-taken : (bytes rest : List ℕ) → rest ≡ [] → take (length bytes - length rest) bytes ≡ bytes
all-taken bytes rest none = let long = ap length none in take_all (length bytes - length rest) bytes (omega (arith, long))

-- the digits of a whole number
pub whole-digits : (bytes digits rest : List ℕ) (negative : Bool) (z : ℤ) → IsIntegerAt bytes negative digits rest → SpellsWhole bytes z
    → signed negative (number digits) ≡ z
whole-digits bytes digits rest negative z at spelled =
    let Spells : List ℕ → Type 0 = λ xs. SpellsWhole xs (signed negative (number digits)) in
    whole_once bytes (signed negative (number digits)) z
    (subst Spells (all-taken bytes rest (whole_integer bytes digits rest negative z at spelled))
    (spells_integer bytes digits rest negative at)) spelled

-- a whole number has no point
pub whole-unpointed : (bytes whole fraction rest : List ℕ) (negative : Bool) (power : Exponent) (z : ℤ)
    → IsRealAt bytes negative whole fraction power rest → SpellsWhole bytes z → ⊥
whole-unpointed bytes whole fraction rest negative power z at spelled = let none =
    whole_integer bytes whole (46 ∷ (fraction ++ at.behind)) negative z at.whole_at spelled in cc

module _ (bytes whole fraction rest : List ℕ) (negative : Bool) (power : Exponent) (d : Decimal)
    (x : IsRealAt bytes negative whole fraction power rest) (spelled : SpellsReal bytes d) where
  all : take (length bytes - length rest) bytes ≡ bytes
  all = all-taken bytes rest (whole_real bytes whole fraction rest negative power x spelled.form)

  taken-spelled : SpellsReal (take (length bytes - length rest) bytes) d
  taken-spelled = let Spells : List ℕ → Type 0 = λ xs. SpellsReal xs d in subst Spells (sym all) spelled

  -- the exponent of a real is short
  pub real-short : ReadsExponent power None → ⊥
  real-short long = long (subst IsShortExponent (same_form _ taken-spelled.form
      (real_form bytes whole fraction rest negative power x)).power taken-spelled.is_short)

  -- the digits of a real
  pub real-digits : (k : ℤ) → ReadsExponent power (Some k) → SameRatio (digits_ratio negative whole fraction k) (ratio_of d)
  real-digits k (short, value) =
      let form = real_form bytes whole fraction rest negative power x in
      let same : real_ratio taken-spelled.form ≡ real_ratio form =
      form_ratio_once (take (length bytes - length rest) bytes) taken-spelled.form form in
      let by_form : SameRatio (real_ratio form) (ratio_of d) = subst (λ (r : Ratio). SameRatio r (ratio_of d)) same taken-spelled.same in
      let by_sign : SameRatio (digits_ratio negative whole fraction (exponent_value power)) (ratio_of d) = subst
      (λ (b : Bool). SameRatio (digits_ratio b whole fraction (exponent_value power)) (ratio_of d)) (sym x.whole_at.negative_is)
      by_form in
      subst (λ (e : ℤ). SameRatio (digits_ratio negative whole fraction e) (ratio_of d)) (sym value) by_sign
