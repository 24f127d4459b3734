use Rattle.std.proofs.Common.{◌-◌, ◌≤◌}
use Rattle.p21_spec_exchange.specs.Parameter.{more_tokens}
use Rattle.p21_express_graph.specs.Lookups.{places_from}
use Rattle.p21_express_graph.specs.Orders.{numbers}
use Rattle.p21_spec_file.specs.ValueText.{with_commas}
use Rattle.p21_shorter_instances.specs.TakenParameters.{TakesPlaces}
use Rattle.p21_shorter_instances.specs.TakenValues.{KeepsNeeds}
use Rattle.p21_values.specs.Canonical.{Continues}
use Rattle.p21_shorter_instances.proofs.own_parameters.append_further_parameters.Given as goal

-- the values at the attributes so far are taken
abbrev pub invariant-loop-index : goal.invariant-loop-index
invariant-loop-index l = record {
  some : 1 ≤ l.index;
  takes : TakesPlaces l.schema (numbers l.set) more_tokens with_commas (places_from l.owner.entity.0 1 (l.index - 1)) l.bytes l.rest
      l.fn.taken l.taken;
  draft : Continues l.fn.taken.draft l.taken.draft;
  needs : KeepsNeeds l.fn.taken.needs.items l.taken.needs.items;
}
