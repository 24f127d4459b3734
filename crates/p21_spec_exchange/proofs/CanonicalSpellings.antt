-- What some bytes spell its canonical spelling spells.
use Rattle.std.proofs.Common.{ℕ, List, refl}
use Rattle.p21_spec_exchange.proofs.BitSpellings.{bits_spell}
use Rattle.p21_spec_exchange.proofs.Exponents.{in_range_of_same}
use Rattle.p21_spec_exchange.proofs.Names.{name_spells}
use Rattle.p21_spec_exchange.proofs.Ratios.{ratio-positive}
use Rattle.p21_spec_exchange.proofs.RealSpellings.{form-positive, real_spells}
use Rattle.p21_spec_exchange.proofs.Scalars.{characters_are_scalars}
use Rattle.p21_spec_exchange.proofs.Texts.{text_spells}
use Rattle.p21_spec_exchange.proofs.WholeSpellings.{whole_spells}
use Rattle.p21_spec_exchange.specs.Number.{Decimal, IsInRange, SpellsReal, ratio_of, real_ratio}
use Rattle.p21_spec_exchange.specs.Spelling.{spelling}
use Rattle.p21_spec_exchange.specs.Token.{Token, begin, finish, keyword, user_keyword, name, whole, real, text, item, bits, left, right, comma, semicolon, equals, dollar, star, Spells}

-- the range of a real is that of its ratio
pub in-range : (bytes : List ℕ) (d : Decimal) → SpellsReal bytes d → IsInRange (ratio_of d)
in-range bytes d s = in_range_of_same (real_ratio s.form) (ratio_of d) (form-positive bytes s.form) (ratio-positive d) s.same s.in_range

pub spells-itself : (token : Token) (bytes : List ℕ) → Spells token bytes → Spells token (spelling token)
spells-itself begin bytes s = refl
spells-itself finish bytes s = refl
spells-itself (keyword word) bytes s = (refl, s.1)
spells-itself (user_keyword word) bytes s = (refl, s.1)
spells-itself (name n) bytes s = name_spells n s.in_range
spells-itself (whole z) bytes s = whole_spells z
spells-itself (real d) bytes s = real_spells d s.is_reduced (in-range bytes d s)
spells-itself (text characters) bytes s = text_spells characters (characters_are_scalars s.inside characters s.encodes)
spells-itself (item word) bytes s = (refl, s.1)
spells-itself (bits value) bytes s = bits_spell value
spells-itself left bytes s = refl
spells-itself right bytes s = refl
spells-itself comma bytes s = refl
spells-itself semicolon bytes s = refl
spells-itself equals bytes s = refl
spells-itself dollar bytes s = refl
spells-itself star bytes s = refl
