-- Which token of the definitions a token of the code stands for, and which tokens wait for the byte behind them.
use Rattle.std.specs.Prelude.{Bool, true, false, List, [], ◌∷◌, Option, Some, None}
use Rattle.p21_spec_exchange.specs.Token as meaning
use Rattle.p21_tokens.specs.declared.token.Token.{Token}
use Rattle.p21_tokens.specs.declared.token.Token.TheVariants.{Begin, Finish, Keyword, UserKeyword, Name, Whole, Real, Text, Item, Bits, Left, Right, Comma, Semicolon, Equals, Dollar, Star}

abbrev pub meant : Token → meaning.Token
meant Begin = meaning.begin
meant Finish = meaning.finish
meant (Keyword word) = meaning.keyword word
meant (UserKeyword word) = meaning.user_keyword word
meant (Name number) = meaning.name number
meant (Whole number) = meaning.whole number
meant (Real number) = meaning.real number
meant (Text characters) = meaning.text characters
meant (Item word) = meaning.item word
meant (Bits value) = meaning.bits value
meant Left = meaning.left
meant Right = meaning.right
meant Comma = meaning.comma
meant Semicolon = meaning.semicolon
meant Equals = meaning.equals
meant Dollar = meaning.dollar
meant Star = meaning.star

-- the token that a call gave, as a list
abbrev pub meant_all : Option Token → List meaning.Token
meant_all None = []
meant_all (Some token) = meant token ∷ []

-- a token that is given when the byte behind it is seen
abbrev pub waits : meaning.Token → Bool
waits meaning.begin = true
waits meaning.finish = true
waits (meaning.keyword word) = true
waits (meaning.user_keyword word) = true
waits (meaning.name number) = true
waits (meaning.whole number) = true
waits (meaning.real number) = true
waits (meaning.text characters) = true
waits other = false
