-- Values of attributes (ISO 10303-11, Data types; ISO 10303-21, Mapping of EXPRESS data types).
use Rattle.std.specs.Prelude.{ℕ, zero, suc, ℤ, Bool, List, Option, Some, None}
use Rattle.p21_spec_exchange.specs.Number.{Decimal}

-- A value of an attribute: `number` at a NUMBER, `item` at an enumeration, BOOLEAN or LOGICAL, `derived` at a derived
-- attribute, `missing` where there is none; a typed value keeps the type that its keyword names
mutual
  pub data Value : Type 0 where
    whole : ℤ → Value
    real : Decimal → Value
    number : Decimal → Value
    text : List ℕ → Value
    bits : List Bool → Value
    item : List ℕ → Value
    reference : ℕ → Value
    derived : Value
    missing : Value
    list : Values → Value
    array : Values → Value
    set : Values → Value
    bag : Values → Value
    typed : ℕ → Value → Value

  pub data Values : Type 0 where
    no_values : Values
    value : Value → Values → Values

-- how many values there are
abbrev pub count : Values → ℕ
count no_values = 0
count (value v vs) = suc (count vs)

-- the value of this number in a list, counted from 0
abbrev pub value_at : Values → ℕ → Option Value
value_at no_values i = None
value_at (value v vs) zero = Some v
value_at (value v vs) (suc i) = value_at vs i
