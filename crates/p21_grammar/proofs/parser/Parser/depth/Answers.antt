use Rattle.std.proofs.Common.{ap, sym, subst}
use Rattle.p21_spec_exchange.specs.OpenNesting.{IsDepth}
use Rattle.p21_grammar.proofs.Holding.{stands_depth}
use Rattle.p21_grammar.specs.Held.{Held}
use Rattle.p21_grammar.proofs.parser.Parser.depth.Goals as goal

pub returns-clause-depth : goal.returns-clause-depth
returns-clause-depth c = λ history stands. subst (IsDepth history.taken) (ap (λ (v : Held). v.depth) (sym c.self.view_is)) (stands_depth c.args.self.now history stands)
