use Rattle.std.specs.Prelude.{[]}
use Rattle.p21_commands.specs.OwnTexts.{IsPlainWord}
use Rattle.p21_commands.proofs.OwnWords.{StandBehind}
use Rattle.p21_express_graph.specs.Lookups.{places_from}
use Rattle.p21_commands.proofs.print.own_text.Given as goal

-- the names so far stand there
abbrev pub invariant-loop-index : goal.invariant-loop-index
invariant-loop-index l = StandBehind (IsPlainWord l.schema) (places_from l.owner.0 0 l.index) [] l.text.items
