use Rattle.std.proofs.Common.{sym}
use Rattle.std.proofs.lemmas.List.{take-map}
use Rattle.p21_express_graph.proofs.prefixes.first_of.Goals as goal

pub returns : goal.returns
returns c = sym (take-map (λ e. e.0) c.args.size c.args.run.now)
