use Rattle.p21_grammar_tree.specs.View.{key_view}
use Rattle.p21_mapping.proofs.Shapes.{named-is}
use Rattle.p21_mapping.proofs.key.named.Goals as goal

pub returns : goal.returns
returns c = named-is (λ e. e.0) c.args.schema.now (key_view c.args.key.now) c.bytes.result.now c.entity.result c.if-key.false
    c.bytes.ensures c.entity.ensures
