-- The tokens of scalars have spellings.
use Rattle.std.proofs.Common.{ℕ, ◌<◌, ◌^◌, ℤ, Bool, List, refl}
use Rattle.std.specs.List.{AllByRecursion as Each}
use Rattle.p21_spec_exchange.specs.Token.{IsSpelled}
use Rattle.p21_spec_exchange.proofs.BitSpellings.{bits_spell}
use Rattle.p21_spec_exchange.proofs.Names.{name_spells}
use Rattle.p21_spec_exchange.proofs.RealSpellings.{real_spells}
use Rattle.p21_spec_exchange.proofs.Texts.{text_spells}
use Rattle.p21_spec_exchange.proofs.WholeSpellings.{whole_spells}
use Rattle.p21_spec_exchange.specs.Keyword.{IsKeyword}
use Rattle.p21_spec_exchange.specs.Number.{Decimal}
use Rattle.p21_spec_exchange.specs.Spelling.{spelling}
use Rattle.std.specs.Char.{IsScalar}
use Rattle.p21_spec_exchange.specs.Token as token
use Rattle.p21_values.specs.Decimal.{IsDecimal}

pub whole-spelled : (z : ℤ) → IsSpelled (token.whole z)
whole-spelled z = (spelling (token.whole z), whole_spells z)

pub real-spelled : (d : Decimal) → IsDecimal d → IsSpelled (token.real d)
real-spelled d is = (spelling (token.real d), real_spells d is.reduced is.in_range)

pub text-spelled : (characters : List ℕ) → Each IsScalar characters → IsSpelled (token.text characters)
text-spelled characters are = (spelling (token.text characters), text_spells characters are)

pub bits-spelled : (value : List Bool) → IsSpelled (token.bits value)
bits-spelled value = (spelling (token.bits value), bits_spell value)

pub name-spelled : (n : ℕ) → n < 2 ^ 64 → IsSpelled (token.name n)
name-spelled n below = (spelling (token.name n), name_spells n below)

pub item-spelled : (word : List ℕ) → IsKeyword word → IsSpelled (token.item word)
item-spelled word is = (spelling (token.item word), (refl, is))

pub keyword-spelled : (word : List ℕ) → IsKeyword word → IsSpelled (token.keyword word)
keyword-spelled word is = (word, (refl, is))

pub user_keyword-spelled : (word : List ℕ) → IsKeyword word → IsSpelled (token.user_keyword word)
user_keyword-spelled word is = (spelling (token.user_keyword word), (refl, is))
