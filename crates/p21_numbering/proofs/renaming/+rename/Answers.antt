use Rattle.std.specs.Prelude.{map}
use Rattle.std.proofs.Common.{ap, ◌∙◌}
use Rattle.p21_mapping_values.specs.View.{list_of, view, views}
use Rattle.p21_numbering.specs.NewNames.{new_name}
use Rattle.p21_numbering.proofs.Renamings.{none-taken, one-taken, views-renamed}
use Rattle.p21_spec_numbering.specs.Renamed.{renamed_value}
use Rattle.p21_numbering.proofs.renaming.+rename.Goals as goal

pub renamed_items-loop-value-init : goal.renamed_items-loop-value-init
renamed_items-loop-value-init t c = none-taken _ view c.reverse.new.self.items c.args.values.items c.in_ok-all.all.items
    c.reverse.ensures.items c.in_ok-all.ensures.items

pub renamed_items-loop-value-preserved : goal.renamed_items-loop-value-preserved
renamed_items-loop-value-preserved t c =
    one-taken _ view c.loop-value.left.items c.pop.new.self.items c.args.values.items c.in-Some.value c.in_ok-value.value
    c.loop-value.all.items c.push.new.self.items c.loop-value.invariant c.in-Some.ensures.items c.in_ok-value.ensures
    c.in_ok-push.ensures.items

pub renamed_all-returns : goal.renamed_all-returns
renamed_all-returns t c =
    ap views c.from_vec.ensures
    ∙ views-renamed (new_name c.args.names.now) c.in_ok-items.items.items (list_of c.args.values)
    (c.in_ok-items.ensures ∙ ap (map (λ v. renamed_value (new_name c.args.names.now) (view v))) c.into_items.ensures)
