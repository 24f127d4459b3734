-- Of which kind a token is.
use Rattle.std.specs.Prelude.{ℕ, List, if◌then◌else◌, codes}
use Rattle.std.specs.Str.{bytes_eq}
use Rattle.p21_spec_exchange.specs.Token as token
use Rattle.p21_spec_exchange.specs.Token.{Token}
use Rattle.p21_grammar.specs.declared.kind.Kind.{Kind}
use Rattle.p21_grammar.specs.declared.kind.Kind.TheVariants.{Begin, HeaderStart, DataStart, SectionEnd, Finish, Keyword, UserKeyword, Name, Whole, Real, Text, Item, Bits, Dollar, Star, Left, Right, Comma, Equals, Semicolon}

-- of the keywords with which a section begins or ends each has a kind of its own
abbrev pub kind_of_keyword : List ℕ → Kind
kind_of_keyword w =
    if bytes_eq w (codes "HEADER") then HeaderStart
    else if bytes_eq w (codes "DATA") then DataStart
    else if bytes_eq w (codes "ENDSEC") then SectionEnd
    else Keyword

abbrev pub kind_of : Token → Kind
kind_of token.begin = Begin
kind_of token.finish = Finish
kind_of (token.keyword w) = kind_of_keyword w
kind_of (token.user_keyword w) = UserKeyword
kind_of (token.name n) = Name
kind_of (token.whole z) = Whole
kind_of (token.real d) = Real
kind_of (token.text chars) = Text
kind_of (token.item w) = Item
kind_of (token.bits value) = Bits
kind_of token.left = Left
kind_of token.right = Right
kind_of token.comma = Comma
kind_of token.semicolon = Semicolon
kind_of token.equals = Equals
kind_of token.dollar = Dollar
kind_of token.star = Star
