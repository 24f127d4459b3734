use Rattle.p21_spec_exchange.proofs.OneTree.{one_tree}
use Rattle.p21_grammar.proofs.laws.one_tree.Goals as goal

pub returns : goal.returns
returns c = one_tree
