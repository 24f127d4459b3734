use Rattle.p21_express_syntax.proofs.OneTree.{one_text_tree}
use Rattle.p21_express_syntax.proofs.schema.one_tree.Goals as goal

pub returns-clause-text : goal.returns-clause-text
returns-clause-text c = one_text_tree
