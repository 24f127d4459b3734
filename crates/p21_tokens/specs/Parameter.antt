-- One scalar parameter between separators (ISO 10303-21, tokens and parameters), and its canonical spelling.
use Rattle.std.specs.Prelude.{◌≡◌, ◌≢◌, ◌↔◌, ◌⊎◌, ℕ, ◌<◌, ◌≤◌, List, [], ◌∷◌, ◌++◌, length}
use Rattle.p21_spec_exchange.specs.Laying.{Lexeme, Laid, tokens_in, HoldsScalar}
use Rattle.p21_spec_exchange.specs.Pending.{Tail, LaidUpTo}
use Rattle.p21_spec_basics.specs.Limits.{text_limit}
use Rattle.p21_spec_exchange.specs.Spelling.{spelling}
use Rattle.p21_spec_exchange.specs.Token.{Token, Spells, IsScalarToken, IsSpelled}
use Rattle.p21_tokens_automaton.specs.SameToken.{SameToken}
use Rattle.p21_tokens.specs.Histories.{NamesFaultAtByte, NamesFaultAtEnd}
use Rattle.p21_tokens.specs.declared.fault.TokenFault.{TokenFault}
use Rattle.p21_tokens.specs.declared.fault.TokenFault.TheVariants.{NotOneParameter, RecordTooLong, FileTooLong, EndsEarly, NoMemory}

-- a scalar that some bytes spell
abbrev pub IsScalarValue : Token → Type 0
IsScalarValue token = IsScalarToken token × IsSpelled token

-- the canonical spelling of the text's one scalar, which spells it, and is that of the same scalars alone
pub record IsAnswer (text answer : List ℕ) : Type 0 where
  pub within : length text ≤ text_limit
  pub token : Token
  pub held : HoldsScalar text token
  pub spelling_is : answer ≡ spelling token
  pub spells : Spells token answer
  pub same : (other : Token) → IsScalarValue other → (answer ≡ spelling other) ↔ SameToken token other

-- tokens that are more than one, or one that is no scalar
abbrev pub AreNoScalar : List Token → Type 0
AreNoScalar [] = ⊥
AreNoScalar (token ∷ []) = ¬ IsScalarToken token
AreNoScalar (token ∷ others) = Unit {0}

-- such tokens stand first in the text, or are all of it
pub data HoldsOtherTokens (text : List ℕ) : Type 0 where
  stand_first : (front rest : List ℕ) (lexemes : List Lexeme) (tail : Tail) → text ≡ front ++ rest → LaidUpTo front lexemes tail → AreNoScalar (tokens_in lexemes) → HoldsOtherTokens text
  are_all : (tokens : List Token) → Laid text tokens → AreNoScalar tokens → HoldsOtherTokens text

-- the text ends behind separators, or behind or in one scalar that is not whole: no tokens are laid in it but none
pub record EndsUnfinished (text : List ℕ) : Type 0 where
  pub lexemes : List Lexeme
  pub tail : Tail
  pub laid : LaidUpTo text lexemes tail
  pub no_others : ¬ AreNoScalar (tokens_in lexemes)
  pub none : (tokens : List Token) → Laid text tokens → tokens ≡ []
  pub names : Laid text [] ⊎ NamesFaultAtEnd tail EndsEarly

-- a byte of the text is refused, or its end, with this fault; what stands in front is no two tokens, and none but a scalar
pub data IsRefusedFor (text : List ℕ) (fault : TokenFault) : Type 0 where
  at_byte : (front rest : List ℕ) (byte : ℕ) (lexemes : List Lexeme) (tail : Tail) → text ≡ front ++ byte ∷ rest → LaidUpTo front lexemes tail → ¬ AreNoScalar (tokens_in lexemes) → NamesFaultAtByte tail byte fault → IsRefusedFor text fault
  at_end : (lexemes : List Lexeme) (tail : Tail) → LaidUpTo text lexemes tail → ¬ AreNoScalar (tokens_in lexemes) → NamesFaultAtEnd tail fault → IsRefusedFor text fault

-- What a refusal says of the text, which in each case but want of memory holds no scalar: a text too long is not
-- read; another token is named only where there is one, and an early end only there; every other fault is the one of
-- what is wrong at the first byte that is refused, or at the end; want of memory of no text too long
abbrev pub RefusesText : List ℕ → TokenFault → Type 0
RefusesText text NoMemory = Unit {0}
RefusesText text NotOneParameter = HoldsOtherTokens text
RefusesText text EndsEarly = EndsUnfinished text
RefusesText text RecordTooLong = ⊥
RefusesText text FileTooLong = ⊥
RefusesText text fault = IsRefusedFor text fault

-- the text holds no scalar
abbrev pub HoldsNoScalar : List ℕ → Type 0
HoldsNoScalar text = (token : Token) → ¬ HoldsScalar text token

-- a text is refused only where it is too long or holds no scalar, or for want of memory
abbrev pub IsRefusal : List ℕ → TokenFault → Type 0
IsRefusal text FileTooLong = text_limit < length text
IsRefusal text fault = (length text ≤ text_limit) × RefusesText text fault × (fault ≢ NoMemory → HoldsNoScalar text)
