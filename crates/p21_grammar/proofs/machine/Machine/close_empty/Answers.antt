use Rattle.std.proofs.Common.{rules, arith}
use Rattle.std.proofs.lemmas.Bool.Decides.{nat_tests}
use Rattle.p21_grammar.specs.Machine.{opening_of, stack_of}
use Rattle.p21_grammar.proofs.Stacks.{empty-more}
use Rattle.p21_grammar.proofs.machine.Machine.close_empty.Goals as goal

pub returns-then-not-is_empty-clause-err : goal.returns-then-not-is_empty-clause-err
returns-then-not-is_empty-clause-err c = λ other. empty-more c.args.self.now.stage (opening_of c.args.self.now.row.opening) c.args.self.now.row.params.items (stack_of c.args.self.now.frames.items) (first_of (search rules, grind (arith, nat_tests)))
