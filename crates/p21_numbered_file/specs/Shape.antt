-- The texts in header records and in the beginnings of data sections, where they have their shapes.
use Rattle.std.specs.Prelude.{ℕ, List, Option, Some, None}
use Rattle.p21_spec_exchange.specs.Parameter.{Param, Params, text, list, no_params, param}

-- the parameter is a text
abbrev pub text_of : Param → Option (List ℕ)
text_of (text chars) = Some chars
text_of other = None

-- the parameters are exactly one text
abbrev pub only_text : Params → Option (List ℕ)
only_text no_params = None
only_text (param p no_params) = text_of p
only_text (param p (param q ps)) = None

-- the parameter is a list of exactly one text
abbrev pub listed_text : Param → Option (List ℕ)
listed_text (list ps) = only_text ps
listed_text other = None

-- the parameters are exactly one list of exactly one text
abbrev pub only_listed_text : Params → Option (List ℕ)
only_listed_text no_params = None
only_listed_text (param p no_params) = listed_text p
only_listed_text (param p (param q ps)) = None
