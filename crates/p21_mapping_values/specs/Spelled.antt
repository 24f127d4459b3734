-- Values that can be written.
use Rattle.p21_spec_exchange.specs.Token.{IsSpelled}
use Rattle.p21_spec_exchange.specs.Token as token
use Rattle.p21_spec_file.specs.Value.{Value, whole, real, number, text, bits, item, reference, derived, missing, list, array, set, bag, typed, Values, no_values, value}
use Rattle.p21_spec_file.specs.ValueText.{type_name}
use Rattle.p21_spec_schema.specs.Schema.{Schema}

-- each token in the text of the value has a spelling
abbrev mutual
  pub IsSpelledValue : Schema → Value → Type 0
  IsSpelledValue s (whole z) = IsSpelled (token.whole z)
  IsSpelledValue s (real d) = IsSpelled (token.real d)
  IsSpelledValue s (number d) = IsSpelled (token.real d)
  IsSpelledValue s (text characters) = IsSpelled (token.text characters)
  IsSpelledValue s (bits bs) = IsSpelled (token.bits bs)
  IsSpelledValue s (item word) = IsSpelled (token.item word)
  IsSpelledValue s (reference n) = IsSpelled (token.name n)
  IsSpelledValue s derived = Unit {0}
  IsSpelledValue s missing = Unit {0}
  IsSpelledValue s (list vs) = AreSpelled s vs
  IsSpelledValue s (array vs) = AreSpelled s vs
  IsSpelledValue s (set vs) = AreSpelled s vs
  IsSpelledValue s (bag vs) = AreSpelled s vs
  IsSpelledValue s (typed t v) = IsSpelled (token.keyword (type_name s t)) × IsSpelledValue s v

  pub AreSpelled : Schema → Values → Type 0
  AreSpelled s no_values = Unit {0}
  AreSpelled s (value v vs) = IsSpelledValue s v × AreSpelled s vs
