-- Parameters and the tokens that they are written with (ISO 10303-21, formal definition of the exchange structure:
-- parameter list; structured data types: list).
use Rattle.std.specs.Prelude.{ℕ, ℤ, Bool, true, false, List, [], ◌∷◌, ◌++◌}
use Rattle.p21_spec_exchange.specs.Number.{Decimal}
use Rattle.p21_spec_exchange.specs.Token as token
use Rattle.p21_spec_exchange.specs.Token.{Token}

-- a keyword; a user keyword is kept without its `!`
pub record Key : Type 0 where
  pub user : Bool
  pub word : List ℕ

-- the key of a keyword that is no user keyword
abbrev pub key_of : List ℕ → Key
key_of word = record { user = false; word = word }

mutual
  -- `$`, `*`, a scalar, an instance name, a list, or a typed parameter
  pub data Param : Type 0 where
    dollar : Param
    star : Param
    whole : ℤ → Param
    real : Decimal → Param
    text : List ℕ → Param
    name : ℕ → Param
    item : List ℕ → Param
    bits : List Bool → Param
    list : Params → Param
    typed : Key → Param → Param

  -- a parameter list, possibly empty
  pub data Params : Type 0 where
    no_params : Params
    param : Param → Params → Params

-- the parameters one by one
abbrev pub listed : Params → List Param
listed no_params = []
listed (param p ps) = p ∷ listed ps

-- and a list of them as parameters
abbrev pub params_of : List Param → Params
params_of [] = no_params
params_of (p ∷ ps) = param p (params_of ps)

-- the token of a key
abbrev pub key_token : Key → Token
key_token key = elim key.user [ true ↦ token.user_keyword key.word | false ↦ token.keyword key.word ]

-- The tokens of a parameter, and of a parameter list, which has a comma between each two
abbrev mutual
  pub param_tokens : Param → List Token
  param_tokens dollar = token.dollar ∷ []
  param_tokens star = token.star ∷ []
  param_tokens (whole z) = token.whole z ∷ []
  param_tokens (real d) = token.real d ∷ []
  param_tokens (text chars) = token.text chars ∷ []
  param_tokens (name n) = token.name n ∷ []
  param_tokens (item word) = token.item word ∷ []
  param_tokens (bits value) = token.bits value ∷ []
  param_tokens (list ps) = token.left ∷ (params_tokens ps ++ (token.right ∷ []))
  param_tokens (typed key p) = key_token key ∷ token.left ∷ (param_tokens p ++ (token.right ∷ []))

  pub params_tokens : Params → List Token
  params_tokens no_params = []
  params_tokens (param p ps) = param_tokens p ++ more_tokens ps

  -- with a comma before each
  pub more_tokens : Params → List Token
  more_tokens no_params = []
  more_tokens (param p ps) = token.comma ∷ (param_tokens p ++ more_tokens ps)
