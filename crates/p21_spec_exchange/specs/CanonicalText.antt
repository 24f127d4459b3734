-- Tokens, parameters and statements in their canonical spellings (this project's own form of an exchange structure of ISO 10303-21).
use Rattle.std.specs.Prelude.{ℕ, List, [], ◌∷◌, ◌++◌}
use Rattle.std.specs.List.{flat_map}
use Rattle.p21_spec_exchange.specs.Parameter.{Param, Params, no_params, param, param_tokens}
use Rattle.p21_spec_exchange.specs.Spelling.{spelling}
use Rattle.p21_spec_exchange.specs.Statement.{Statement, statement_tokens}
use Rattle.p21_spec_exchange.specs.Token.{Token}

-- tokens with nothing between them
abbrev pub tokens_text : List Token → List ℕ
tokens_text tokens = flat_map spelling tokens

-- a parameter in its canonical spelling
abbrev pub param_text : Param → List ℕ
param_text p = tokens_text (param_tokens p)

-- the text of each
abbrev pub param_texts : Params → List (List ℕ)
param_texts no_params = []
param_texts (param p ps) = param_text p ∷ param_texts ps

-- a statement with no LF behind it
abbrev pub statement_text : Statement → List ℕ
statement_text statement = tokens_text (statement_tokens statement)

-- a line of the canonical file: a statement and an LF
abbrev pub line : Statement → List ℕ
line statement = statement_text statement ++ (10 ∷ [])
