-- Bytes of whole statements, and what stands behind them (ISO 10303-21, tokens): so what is said of a file with separators in the place of
-- bytes that are passed over is said of the kept bytes too.
use Rattle.std.specs.Prelude.{◌≡◌, ℕ, List, [], ◌++◌}
use Rattle.std.specs.List.{AllByRecursion as Each}
use Rattle.p21_spec_basics.specs.Digits.{IsByte}
use Rattle.p21_spec_basics.specs.Limits.{Limits}
use Rattle.p21_spec_exchange.specs.Laying.{LaidAs, Lexeme, tokens_in}
use Rattle.p21_spec_exchange.specs.OpenNesting.{EndsWithSemicolon}
use Rattle.p21_spec_exchange.specs.Separator.{IsSeparatorText}
use Rattle.p21_spec_exchange.specs.Token.{Token}
use Rattle.p21_spec_syntax.specs.FileWithin.{BeginsNoFile, IsNoFile}

-- the bytes are laid as these tokens with their sizes, and the last of them is a `;`, or there are none
pub record AreWhole (bytes : List ℕ) (lexemes : List Lexeme) : Type 0 where
  pub laid : LaidAs bytes lexemes
  pub ends : EndsWithSemicolon (tokens_in lexemes)

-- two byte lists hold the same whole statements, token for token and with the same sizes; they differ in what stands between the tokens
abbrev pub HoldTheSame : List ℕ → List ℕ → Type 0
HoldTheSame bytes other = (lexemes : List Lexeme) × AreWhole bytes lexemes × AreWhole other lexemes

-- no file begins with these bytes, whatever its size
abbrev pub BeginsNone : List ℕ → Type 0
BeginsNone bytes = (more : List ℕ) → Each IsByte more → IsNoFile (bytes ++ more)

-- nor does one whose statements have so many token bytes at most
abbrev pub BeginsNoneWithin : ℕ → List ℕ → Type 0
BeginsNoneWithin most bytes = (limits : Limits) → limits.record_source ≡ most → BeginsNoFile limits bytes

-- ---- laws

-- behind whole statements the other tokens are laid by themselves
abbrev pub BehindIsLaid : Type 0
BehindIsLaid = (front behind : List ℕ) (lexemes all : List Lexeme) → AreWhole front lexemes → LaidAs (front ++ behind) all
    → (more : List Lexeme) × (all ≡ lexemes ++ more) × LaidAs behind more

-- and what is laid by itself is laid behind them
abbrev pub JoinedIsLaid : Type 0
JoinedIsLaid = (front behind : List ℕ) (lexemes more : List Lexeme) → AreWhole front lexemes → LaidAs behind more
    → LaidAs (front ++ behind) (lexemes ++ more)

-- separators behind whole statements change no token
abbrev pub GapIsNoToken : Type 0
GapIsNoToken = (front gap : List ℕ) (lexemes : List Lexeme) → AreWhole front lexemes → IsSeparatorText gap → AreWhole (front ++ gap) lexemes

-- so bytes are laid alike behind one and behind the other
abbrev pub LaidAlike : Type 0
LaidAlike = (front other behind : List ℕ) (all : List Lexeme) → HoldTheSame front other → LaidAs (front ++ behind) all
    → LaidAs (other ++ behind) all

-- and where those with separators begin no file, the others begin none
abbrev pub NoFileAlike : Type 0
NoFileAlike = (front other behind : List ℕ) → HoldTheSame front other → IsNoFile (front ++ behind) → IsNoFile (other ++ behind)

abbrev pub BeginsNoneAlike : Type 0
BeginsNoneAlike = (front other behind : List ℕ) → HoldTheSame front other → BeginsNone (front ++ behind) → BeginsNone (other ++ behind)

abbrev pub BeginsNoneWithinAlike : Type 0
BeginsNoneWithinAlike = (most : ℕ) (front other behind : List ℕ) → HoldTheSame front other → BeginsNoneWithin most (front ++ behind)
    → BeginsNoneWithin most (other ++ behind)

-- ---- how two byte lists hold the same

abbrev pub NothingHoldsTheSame : Type 0
NothingHoldsTheSame = HoldTheSame [] []

-- whole statements behind both
abbrev pub StatementsHoldTheSame : Type 0
StatementsHoldTheSame = (front other bytes : List ℕ) (lexemes : List Lexeme) → HoldTheSame front other → AreWhole bytes lexemes
    → HoldTheSame (front ++ bytes) (other ++ bytes)

-- separators behind one
abbrev pub GapHoldsTheSame : Type 0
GapHoldsTheSame = (front other gap : List ℕ) → HoldTheSame front other → IsSeparatorText gap → HoldTheSame (front ++ gap) other

-- ---- two fronts of the same bytes

-- the second goes on behind the first by whole statements with these tokens; or by none, and separators stand behind it in the first
pub data GoesOnBy (front other : List ℕ) (more : List Token) : Type 0 where
  further_on : (bytes : List ℕ) (lexemes : List Lexeme) → other ≡ front ++ bytes → AreWhole bytes lexemes → tokens_in lexemes ≡ more
      → GoesOnBy front other more
  stays_there : (gap : List ℕ) → front ≡ other ++ gap → IsSeparatorText gap → more ≡ [] → GoesOnBy front other more

-- so it is where both are whole statements, and the second has these tokens more
abbrev pub WholeFrontGoesOn : Type 0
WholeFrontGoesOn = (front other behind back : List ℕ) (lexemes others : List Lexeme) (more : List Token) → AreWhole front lexemes
    → AreWhole other others → front ++ behind ≡ other ++ back → tokens_in others ≡ tokens_in lexemes ++ more
    → EndsWithSemicolon more → GoesOnBy front other more
