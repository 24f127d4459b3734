use Rattle.std.proofs.Common.{[], ◌∷◌, arith}
use Rattle.p21_spec_exchange.specs.Header.{string, strings}
use Rattle.p21_grammar.proofs.ShapeTests.{have-short, have-long}
use Rattle.p21_grammar.proofs.shape.are_file_name_params.Goals as goal

pub returns-in_default : goal.returns-in_default
returns-in_default c = have-short (string ∷ string ∷ strings ∷ strings ∷ string ∷ string ∷ string ∷ []) c.args.params.now (omega (arith, c.in_default.len_below))

pub returns-in_default-2 : goal.returns-in_default-2
returns-in_default-2 c = have-long (string ∷ string ∷ strings ∷ strings ∷ string ∷ string ∷ string ∷ []) c.args.params.now (omega (arith, c.in_default.len_at_least))
