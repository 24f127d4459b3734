-- When two tokens mean the same, whatever their spellings (ISO 10303-21, clause 6: tokens).
use Rattle.std.specs.Prelude.{◌≡◌}
use Rattle.p21_spec_exchange.specs.Number.{SameRatio, ratio_of}
use Rattle.p21_spec_exchange.specs.Token.{Token, real}

-- reals are the same where their ratios are equal, other tokens where they are equal
abbrev pub SameToken : Token → Token → Type 0
SameToken (real number) (real other) = SameRatio (ratio_of number) (ratio_of other)
SameToken token other = token ≡ other
