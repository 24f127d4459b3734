-- Lists, typed parameters and records whose tokens have spellings.
use Rattle.std.proofs.Common.{◌≡◌, Bool, true, false, [], ◌∷◌, codes, refl, subst, sym, Result, Ok, Err}
use Rattle.std.specs.Result.{OnOk}
use Rattle.p21_spec_basics.proofs.Members.{Each-append}
use Rattle.p21_spec_laws.proofs.OfType.{AreWritten}
use Rattle.p21_spec_laws.specs.Written.{IsWritten, IsWrittenStatement}
use Rattle.p21_spec_exchange.specs.Token.{IsSpelled}
use Rattle.p21_spec_laws.proofs.Printing.{written-tokens}
use Rattle.p21_spec_exchange.specs.Keyword.{IsKeyword}
use Rattle.p21_spec_exchange.specs.Parameter.{Key, Param, Params, list, typed, key_token, param_tokens, params_tokens}
use Rattle.p21_spec_exchange.specs.Record.{Part}
use Rattle.p21_spec_exchange.specs.Statement.{header}
use Rattle.p21_spec_exchange.specs.Token as token
use Rattle.p21_mapping_values.proofs.SpelledScalars.{keyword-spelled, user_keyword-spelled}

-- what holds anyhow
pub on_any : {T E : Type 0} (r : Result T E) (P : Type 0) → P → OnOk r P
on_any (Ok value) P holds = holds
on_any (Err fault) P holds = tt

-- what follows from it
pub on_more : {T E : Type 0} (r : Result T E) (P Q : Type 0) → (P → Q) → OnOk r P → OnOk r Q
on_more (Ok value) P Q more holds = more holds
on_more (Err fault) P Q more holds = tt

-- a parameter of one token
pub scalar-said : {T E : Type 0} (r : Result T E) (p q : Param) → p ≡ q → IsWritten q → OnOk r (IsWritten p)
scalar-said r p q is written = on_any r (IsWritten p) (subst IsWritten (sym is) written)

pub list-said : (ps : Params) → AreWritten ps → IsWritten (list ps)
list-said ps written = (
  (codes "(", refl),
  Each-append IsSpelled (params_tokens ps) (token.right ∷ []) (written-tokens ps written)
      ((codes ")", refl), tt),
)

pub typed-said : (key : Key) (p : Param) → IsSpelled (key_token key) → IsWritten p → IsWritten (typed key p)
typed-said key p spelled written = (
  spelled,
  (
    (codes "(", refl),
    Each-append IsSpelled (param_tokens p) (token.right ∷ []) written
        ((codes ")", refl), tt),
  ),
)

pub key-said : (key : Key) → IsKeyword key.word → IsSpelled (key_token key)
key-said key is = by_user key.user
  where
    by_user : (user : Bool) → IsSpelled (elim user [ true ↦ token.user_keyword key.word | false ↦ token.keyword key.word ])
    by_user true = user_keyword-spelled key.word is
    by_user false = keyword-spelled key.word is

-- a keyword, and parameters in parentheses
pub header-said : (part : Part) → IsSpelled (key_token part.key) → IsWritten (list part.params) → IsWrittenStatement (header part)
header-said part key written = (
  key,
  Each-append IsSpelled (param_tokens (list part.params)) (token.semicolon ∷ []) written
      ((codes ";", refl), tt),
)
