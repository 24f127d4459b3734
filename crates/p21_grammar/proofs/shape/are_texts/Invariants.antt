use Rattle.std.proofs.Common.{◌≡◌, drop}
use Rattle.p21_grammar_tree.specs.View.{views}
use Rattle.p21_grammar.specs.Shape.{are_texts}
use Rattle.p21_grammar.proofs.shape.are_texts.Given as goal

abbrev pub invariant-loop-param : goal.invariant-loop-param
invariant-loop-param l = are_texts (views (drop l.param-index l.params)) ≡ are_texts (views l.params)
