use Rattle.std.proofs.Common.{subst}
use Rattle.p21_mapping_values.specs.TypedView.{ids_view}
use Rattle.p21_shorter_instances.proofs.InstanceBytes.{numbered-same}
use Rattle.p21_shorter_instances.proofs.Leaving.{ok-both}
use Rattle.p21_shorter_instances.proofs.Meaning.{internal-taken}
use Rattle.p21_shorter_instances.specs.Instance.{Begins}
use Rattle.p21_shorter_instances.specs.declared.instance.Set.{Set}
use Rattle.p21_shorter_instances.proofs.instance.end_instance.Goals as goal

pub returns-in-Own : goal.returns-in-Own
returns-in-Own c = λ n bytes old begins.
    let s = c.args.schema.now in
    let inside = c.args.inside.now in
    let own = subst (λ (set : Set). Begins s n c.args.sets.now set bytes inside old c.args.taken.now) c.in-Own.is begins in
    ok-both c.append_parameters.result c.append_parameters.ensures.some c.append_parameters.ensures.entities
    (λ found takes rising. internal-taken s c.well_formed-2.ensures c.holds_together.ensures n c.in-Own.entity.0 (ids_view found.0.now)
    bytes inside found.1.now old c.args.taken.now c.append_parameters.new.taken own rising takes)

pub returns-in-Some : goal.returns-in-Some
returns-in-Some c = λ n bytes old begins.
    let s = c.args.schema.now in
    let inside = c.args.inside.now in
    let sets = c.args.sets.now in
    let (entities, numbered, takes) = subst (λ (set : Set). Begins s n sets set bytes inside old c.args.taken.now) c.in-Numbered.is begins
    in
    numbered-same s sets c.in-Numbered.at n (ids_view c.in-Some.entities.now) entities bytes inside old c.args.taken.now
    c.in-Some.ensures numbered takes
