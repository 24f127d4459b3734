use Rattle.std.proofs.Common.{rules, arith}
use Rattle.std.proofs.lemmas.Bool.Decides.{nat_tests}
use Rattle.p21_grammar_tree.specs.View.{key_view}
use Rattle.p21_grammar.specs.Machine.{stack_of}
use Rattle.p21_grammar.proofs.Stacks.{typed-more}
use Rattle.p21_grammar.proofs.machine.Machine.close_typed.Goals as goal

pub returns-then-not-is_empty-clause-err : goal.returns-then-not-is_empty-clause-err
returns-then-not-is_empty-clause-err c = λ other. typed-more c.args.self.now.stage (stack_of c.args.self.now.frames.items) (key_view c.args.key) c.args.params.items c.pop.new.self.items c.in-Some.param c.in-Some.ensures.items (first_of (search rules, grind (arith, nat_tests)))
