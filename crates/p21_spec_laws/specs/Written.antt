-- Tokens, parameters and statements that a file may have: those with a spelling. So their reals are reduced.
use Rattle.std.specs.List.{AllByRecursion as Each}
use Rattle.p21_spec_exchange.specs.Parameter.{Param, param_tokens}
use Rattle.p21_spec_exchange.specs.Statement.{Statement, statement_tokens}
use Rattle.p21_spec_exchange.specs.Token.{IsSpelled}

-- each token of the parameter has a spelling
abbrev pub IsWritten : Param → Type 0
IsWritten p = Each IsSpelled (param_tokens p)

-- each token of the statement has a spelling
abbrev pub IsWrittenStatement : Statement → Type 0
IsWrittenStatement statement = Each IsSpelled (statement_tokens statement)
