-- What the search for the one scalar of a text owes.
use Rattle.std.specs.Prelude.{◌≡◌, ◌≢◌, ◌≤◌, ◌^◌, ◌++◌, ◌+◌, ℕ, List, length, Option, Some, None, Result, Ok, Err}
use Rattle.p21_spec_basics.specs.Limits.{text_limit}
use Rattle.p21_spec_exchange.specs.Laying.{HoldsScalar}
use Rattle.p21_spec_exchange.specs.Token.{IsScalarToken}
use Rattle.p21_tokens.specs.Held.{Held}
use Rattle.p21_tokens.specs.Histories.{BeginsWithSeen, Stands, TokenHistory}
use Rattle.p21_tokens.specs.Parameter.{HoldsNoScalar, RefusesText}
use Rattle.p21_tokens.specs.Token.{meant, meant_all}
use Rattle.p21_tokens.specs.declared.fault.TokenFault.{TokenFault}
use Rattle.p21_tokens.specs.declared.fault.TokenFault.TheVariants.{NotOneParameter, EndsEarly, NoMemory}
use Rattle.p21_tokens.specs.declared.token.Token.{Token}

abbrev pub FindsScalar : List ℕ → Result Token TokenFault → Type 0
FindsScalar text (Ok token) = HoldsScalar text (meant token)
FindsScalar text (Err fault) = RefusesText text fault × (fault ≢ NoMemory → HoldsNoScalar text)

-- of two tokens, the one that is there and is a scalar
abbrev pub FindsOnlyScalar : Option Token → Option Token → Result Token TokenFault → Type 0
FindsOnlyScalar None None (Err EndsEarly) = Unit {0}
FindsOnlyScalar (Some token) None (Ok answer) = meant answer ≡ meant token
FindsOnlyScalar None (Some token) (Ok answer) = (meant answer ≡ meant token) × IsScalarToken (meant token)
FindsOnlyScalar None (Some token) (Err NotOneParameter) = IsScalarToken (meant token) → ⊥
FindsOnlyScalar (Some token) (Some other) (Err NotOneParameter) = Unit {0}
FindsOnlyScalar found last result = ⊥

-- no token, or a scalar
abbrev pub IsFoundScalar : Option Token → Type 0
IsFoundScalar None = Unit {0}
IsFoundScalar (Some token) = IsScalarToken (meant token)

-- the lexer has taken what stands in front of the rest of the text, and has given what was found
pub record PendingBytes (v : Held) (bytes rest : List ℕ) (found : Option Token) : Type 0 where
  pub history : TokenHistory
  pub stands : Stands v history
  pub alive : history.refusal ≡ None
  pub all_is : history.taken ++ rest ≡ bytes
  pub given_is : history.given ≡ meant_all found
  pub goes : BeginsWithSeen history.seen rest
  pub scalar : IsFoundScalar found
  pub within : length bytes ≤ text_limit
  pub statement_limit : v.statement_limit ≡ 2 ^ 29
  pub file_limit : v.file_limit ≡ 2 ^ 36

-- how many bytes are left, and whether a token is to be found
abbrev pub left_over : List ℕ → Option Token → ℕ
left_over rest None = length rest + 1
left_over rest (Some token) = length rest
