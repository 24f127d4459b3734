-- Values and parameters where they stand in a canonical line (this project's own form of an exchange structure of ISO
-- 10303-21).
use Rattle.std.specs.Prelude.{◌≡◌, ◌⊎◌, ℕ, List, [], ◌∷◌, ◌++◌, Option, Some, None}
use Rattle.std.specs.List.{AllByRecursion as Each}
use Rattle.p21_spec_exchange.specs.CanonicalText.{param_text, tokens_text}
use Rattle.p21_spec_exchange.specs.Parameter.{Param, Params, no_params, param, params_tokens, dollar, star, whole, real, text, name, item, bits, list, typed}
use Rattle.p21_spec_exchange.specs.Token.{IsSpelled}
use Rattle.p21_spec_laws.specs.Written.{IsWritten}
use Rattle.p21_model_values.specs.declared.kind.Kind.{Kind}
use Rattle.p21_model_values.specs.declared.kind.Kind.TheVariants as kind
use Rattle.p21_model_values.specs.declared.value.Value.{Value}

-- the text is the canonical spelling of the parameter, which a file may have
pub record IsTextOf (bytes : List ℕ) (p : Param) : Type 0 where
  pub written : IsWritten p
  pub bytes_are : bytes ≡ param_text p

-- what a parameter is, by its form
abbrev pub kind_of : Param → Kind
kind_of dollar = kind.Missing
kind_of star = kind.Derived
kind_of (whole z) = kind.Whole
kind_of (real d) = kind.Real
kind_of (text chars) = kind.Text
kind_of (name n) = kind.Reference
kind_of (item word) = kind.Item
kind_of (bits value) = kind.Bits
kind_of (list ps) = kind.Aggregate
kind_of (typed key p) = kind.Typed

-- what stands behind a value in a list or a record: a comma or a closing parenthesis
abbrev pub EndsValue : List ℕ → Type 0
EndsValue [] = ⊥
EndsValue (byte ∷ rest) = (byte ≡ 44) ⊎ (byte ≡ 41)

-- these parameters are left, and behind their closing parenthesis stands this
pub record AreLeft (ps : Params) (after bytes : List ℕ) : Type 0 where
  pub written : Each IsSpelled (params_tokens ps)
  pub bytes_are : bytes ≡ tokens_text (params_tokens ps) ++ (41 ∷ after)

-- the next of these parameters is handed out, and the others are left
abbrev pub HandsOut : Params → List ℕ → Option Value → List ℕ → Type 0
HandsOut no_params after None rest = AreLeft no_params after rest
HandsOut no_params after (Some value) rest = ⊥
HandsOut (param p ps) after None rest = ⊥
HandsOut (param p ps) after (Some value) rest = IsTextOf value.text.now p × AreLeft ps after rest

-- these are the values in parentheses
abbrev pub AreElements : Params → List ℕ → Type 0
AreElements ps bytes = AreLeft ps [] bytes
