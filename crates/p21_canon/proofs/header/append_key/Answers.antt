use Rattle.p21_mapping_values.proofs.WrittenParams.{key-said, on_any}
use Rattle.p21_grammar_tree.specs.View.{key_view}
use Rattle.p21_canon.proofs.header.append_key.Goals as goal

pub returns-clause-written : goal.returns-clause-written
returns-clause-written c = on_any _ _ (key-said (key_view c.args.key.now) c.write_canonical.ensures.value)
