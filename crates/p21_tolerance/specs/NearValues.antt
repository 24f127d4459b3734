-- When two values are the same but for reals that are near.
use Rattle.std.specs.Prelude.{◌≡◌, ◌⊎◌, ℕ, true, false, List, Some}
use Rattle.p21_spec_exchange.specs.Number.{Decimal, Ratio, ratio_of}
use Rattle.p21_spec_exchange.specs.Parameter.{Param, Params, key_of, list, no_params, param, real, typed}
use Rattle.p21_model_values.specs.Written.{IsTextOf}
use Rattle.p21_tolerance.specs.Numbers.{AreNumbersWithin, AreNumbersWithinShare}

-- two reals that differ by no more than the tolerance, or by no more than one of them times it
abbrev pub AreNearReals : Ratio → Decimal → Decimal → Type 0
AreNearReals tolerance d e =
    let first = Some (ratio_of d) in
    let second = Some (ratio_of e) in
    AreNumbersWithin first second tolerance ⊎ AreNumbersWithinShare first second tolerance

abbrev mutual
  -- near reals, aggregates of as many values that are near one by one, near values with one keyword, and all that is the same; what stands
  -- with a user keyword is near where it is the same
  pub AreNearValues : Ratio → Param → Param → Type 0
  AreNearValues tolerance (real d) (real e) = AreNearReals tolerance d e
  AreNearValues tolerance (list ps) (list qs) = AreNearLists tolerance ps qs
  AreNearValues tolerance (typed key p) (typed other q) =
      (key ≡ other) × (key.user ≡ true → p ≡ q) × (key.user ≡ false → AreNearValues tolerance p q)
  AreNearValues tolerance p q = p ≡ q

  pub AreNearLists : Ratio → Params → Params → Type 0
  AreNearLists tolerance no_params no_params = Unit {0}
  AreNearLists tolerance (param p ps) (param q qs) = AreNearValues tolerance p q × AreNearLists tolerance ps qs
  AreNearLists tolerance ps qs = ⊥

abbrev pub IsList : Param → Type 0
IsList (list ps) = Unit {0}
IsList p = ⊥

abbrev pub IsReal : Param → Type 0
IsReal (real d) = Unit {0}
IsReal p = ⊥

abbrev pub AreLists : Param → Param → Type 0
AreLists p q = IsList p × IsList q

-- both stand with one keyword, which is no user keyword
abbrev pub AreTypedAlike : Param → Param → Type 0
AreTypedAlike (typed key p) (typed other q) = (key ≡ other) × (key.user ≡ false)
AreTypedAlike p q = ⊥

-- these are the texts of what stands inside both
abbrev pub AreInside : Param → Param → List ℕ → List ℕ → Type 0
AreInside (typed key p) (typed other q) one two = (key ≡ other) × (key.user ≡ false) × IsTextOf one p × IsTextOf two q
AreInside p q one two = ⊥

-- it stands with a keyword that is no user keyword
abbrev pub IsTyped : Param → Type 0
IsTyped (typed key p) = key.user ≡ false
IsTyped p = ⊥

-- it stands with this keyword, and this is the text of what stands inside
abbrev pub IsTypedAs : Param → List ℕ → List ℕ → Type 0
IsTypedAs (typed key p) word inside = (key ≡ key_of word) × IsTextOf inside p
IsTypedAs p word inside = ⊥
