use Rattle.p21_grammar.proofs.Holding.{new-stands}
use Rattle.std.proofs.Common.{refl, None}
use Rattle.p21_grammar.proofs.Reopening.{between-idle}
use Rattle.p21_grammar.specs.Machine.{spot_of}
use Rattle.p21_grammar.proofs.parser.Parser.new.Goals as goal

pub returns-clause-stands : goal.returns-clause-stands
returns-clause-stands c = new-stands c.new.result.stage (spot_of c.new.result) c.new.ensures.stage c.new.ensures.spot

pub returns-clause-between : goal.returns-clause-between
returns-clause-between c = between-idle c.new.result.stage (spot_of c.new.result) 0 None c.new.ensures.spot refl refl
