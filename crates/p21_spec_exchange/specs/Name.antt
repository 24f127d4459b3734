-- Instance names (ISO 10303-21, clause 6: tokens, entity instance name).
use Rattle.std.specs.Prelude.{◌≡◌, ℕ, ◌^◌, ◌<◌, List, ◌∷◌, length}
use Rattle.p21_spec_basics.specs.Digits.{AllDigits, number}

-- the form of a name, whatever its number: `#`, and one digit or more
pub record NameForm (bytes : List ℕ) : Type 0 where
  pub digits : List ℕ
  pub bytes_are : bytes ≡ 35 ∷ digits
  pub some_digits : 0 < length digits
  pub are_digits : AllDigits digits

-- the form, and a number of at most 2^64 - 1
pub record SpellsName (bytes : List ℕ) (value : ℕ) : Type 0 where
  pub form : NameForm bytes
  pub value_is : value ≡ number form.digits
  pub in_range : value < 2 ^ 64
