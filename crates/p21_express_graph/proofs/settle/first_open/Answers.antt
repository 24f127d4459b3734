use Rattle.std.specs.Prelude.{true, false}
use Rattle.std.proofs.Common.{◌∙◌}
use Rattle.std.proofs.lemmas.List.{get_or_default}
use Rattle.std.proofs.lemmas.List.Elements.{Contains-get_or}
use Rattle.p21_express_graph.proofs.settle.first_open.Goals as goal

pub bounds-done-number : goal.bounds-done-number
bounds-done-number c = c.requires _ (Contains-get_or _ _ 0 c.loop-number-test.true)

pub returns-then-not-done-number : goal.returns-then-not-done-number
returns-then-not-done-number c = (Contains-get_or _ _ 0 c.loop-number-test.true, get_or_default _ _ true false (c.requires _ (Contains-get_or _ _ 0 c.loop-number-test.true)) ∙ c.if-not-done-number.true)
