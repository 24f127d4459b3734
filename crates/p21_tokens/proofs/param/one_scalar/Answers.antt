use Rattle.std.specs.Prelude.{[], refl}
use Rattle.p21_tokens.proofs.OneScalar.{finds-end, ends-unfinished, tokens-are, finds-only_scalar}
use Rattle.p21_tokens.proofs.param.one_scalar.Goals as goal

pub returns-in-Err-finish : goal.returns-in-Err-finish
returns-in-Err-finish c = finds-end c.given_scalar.new.lexer c.args.text.now [] c.in-Ok.found c.in-Ok.ensures refl c.in-Err-finish.fault (c.in-Err-finish.ensures {u = tt}).history (c.in-Err-finish.ensures {u = tt}).names

pub returns : goal.returns
returns c =
    finds-only_scalar c.args.text.now c.in-Ok.found c.in-Ok-finish.last c.only_scalar.result c.in-Ok.ensures.scalar (ends-unfinished c.given_scalar.new.lexer c.args.text.now [] c.in-Ok.found c.in-Ok.ensures refl)
    (tokens-are c.given_scalar.new.lexer c.args.text.now [] c.in-Ok.found c.in-Ok.ensures refl c.in-Ok-finish.last (c.in-Ok-finish.ensures {u = tt}).history) c.only_scalar.ensures
