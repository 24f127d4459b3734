use Rattle.std.proofs.Common.{refl}
use Rattle.p21_grammar.proofs.Holding.{finished, unfinished, not_refused, was_refused}
use Rattle.p21_grammar.specs.Machine.{spot_of}
use Rattle.p21_grammar.proofs.parser.Parser.finish.Goals as goal

pub returns-in-Some-clause-gives : goal.returns-in-Some-clause-gives
returns-in-Some-clause-gives c = λ history stands open_.
    absurd (was_refused c.self.inside.machine.stage (spot_of c.self.inside.machine) c.self.inside.depth c.self.inside.refused c.args.self c.in-Some.fault c.self.view_is c.in-Some.is history stands open_)

pub returns-then-is_ended-clause-gives : goal.returns-then-is_ended-clause-gives
returns-then-is_ended-clause-gives c = λ history stands.
    let is = c.is_ended.ensures.0 c.if-is_ended.true in
    finished c.self.inside.machine.stage (spot_of c.self.inside.machine) c.self.inside.depth is.0 is.1 history
    (not_refused c.self.inside.machine.stage (spot_of c.self.inside.machine) c.self.inside.depth c.self.inside.refused c.args.self c.self.view_is c.in_default.is history stands)

pub returns-clause-gives : goal.returns-clause-gives
returns-clause-gives c = λ history stands open_. (
  refl,
  unfinished c.self.inside.machine.stage (spot_of c.self.inside.machine) c.self.inside.depth c.self.invariant.ran
      (λ ended. let over = c.is_ended.ensures.1 ended in let busy = c.if-is_ended.false in cc) history
      (not_refused c.self.inside.machine.stage (spot_of c.self.inside.machine) c.self.inside.depth c.self.inside.refused c.args.self c.self.view_is c.in_default.is history stands) open_,
)
