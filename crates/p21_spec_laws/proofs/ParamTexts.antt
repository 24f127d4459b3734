-- The text of a parameter, put together from the texts of its parts.
use Rattle.std.specs.Prelude.{◌≡◌, ℕ, List, [], ◌∷◌, ◌++◌, codes, refl}
use Rattle.std.proofs.Common.{ap, ◌∙◌, append-nil}
use Rattle.std.proofs.lemmas.Grind.{flat_map-append}
use Rattle.p21_spec_exchange.specs.CanonicalText.{tokens_text, param_text, param_texts}
use Rattle.p21_spec_exchange.specs.Parameter.{Key, Param, list, typed, Params, no_params, param, key_token, param_tokens, params_tokens, more_tokens}
use Rattle.p21_spec_exchange.specs.Spelling.{spelling}
use Rattle.p21_spec_exchange.specs.Token as token
use Rattle.p21_spec_exchange.specs.Token.{Token}
use Rattle.p21_spec_file.specs.ValueText.{with_commas, with_commas_between, list_text}

pub tokens_text-append : (xs ys : List Token) → tokens_text (xs ++ ys) ≡ tokens_text xs ++ tokens_text ys
tokens_text-append xs ys = flat_map-append spelling xs ys

pub one-token : (t : Token) → tokens_text (t ∷ []) ≡ spelling t
one-token t = append-nil (spelling t)

more-texts : (ps : Params) → tokens_text (more_tokens ps) ≡ with_commas (param_texts ps)
more-texts no_params = refl
more-texts (param p ps) = ap (λ (x : List ℕ). 44 ∷ x) (tokens_text-append (param_tokens p) (more_tokens ps) ∙ ap (λ (x : List ℕ). param_text p ++ x) (more-texts ps))

params-texts : (ps : Params) → tokens_text (params_tokens ps) ≡ with_commas_between (param_texts ps)
params-texts no_params = refl
params-texts (param p ps) = tokens_text-append (param_tokens p) (more_tokens ps) ∙ ap (λ (x : List ℕ). param_text p ++ x) (more-texts ps)

-- a list
pub list-is : (ps : Params) → param_text (list ps) ≡ list_text (param_texts ps)
list-is ps = ap (λ (x : List ℕ). 40 ∷ x) (tokens_text-append (params_tokens ps) (token.right ∷ []) ∙ ap (λ (x : List ℕ). x ++ codes ")") (params-texts ps))

-- a typed parameter
pub typed-is : (key : Key) (p : Param) → param_text (typed key p) ≡ spelling (key_token key) ++ (codes "(" ++ (param_text p ++ codes ")"))
typed-is key p = ap (λ (x : List ℕ). spelling (key_token key) ++ (40 ∷ x)) (tokens_text-append (param_tokens p) (token.right ∷ []))
