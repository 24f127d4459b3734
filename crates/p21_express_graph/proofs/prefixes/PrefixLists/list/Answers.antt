use Rattle.std.proofs.Common.{sym, ◌∙◌}
use Rattle.p21_express_graph.specs.Orders.{number_lists}
use Rattle.p21_express_graph.proofs.SharedRuns.{prefix-list}
use Rattle.p21_express_graph.proofs.prefixes.PrefixLists.list.Goals as goal

pub front-requires : goal.front-requires
front-requires c = c.requires.prefixes c.args.number c.prefix_of.result c.prefix_of.ensures

pub returns : goal.returns
returns c = c.front.ensures ∙ sym (prefix-list (number_lists c.args.self.now.runs.items) c.args.self.now.prefixes.items c.args.number c.prefix_of.result c.prefix_of.ensures)
