use Rattle.std.specs.Prelude.{◌≡◌, [], ℕ}
use Rattle.std.proofs.Common.{arith, ◌∙◌, sym}
use Rattle.p21_mapping_values.specs.declared.value.Values.{Values}
use Rattle.p21_mapping_values.specs.View.{list_of, views}
use Rattle.p21_numbering.specs.NewNames.{new_name}
use Rattle.p21_numbering.proofs.Renamings.{all-taken, none-taken, one-taken}
use Rattle.p21_spec_numbering.specs.Renamed.{renamed_values}
use Rattle.p21_spec_numbering.proofs.Lists.{map-mapped}
use Rattle.p21_numbering.proofs.LabelRows.{nothing-left}
use Rattle.p21_spec_file.specs.Value as meant
use Rattle.p21_numbering.proofs.renaming.renamed_rows.Goals as goal

pub loop-row-init : goal.loop-row-init
loop-row-init c = none-taken _ (λ (r : Values). views (list_of r)) c.reverse.new.self.items c.args.rows.items c.in_ok-all.all.items
    c.reverse.ensures.items c.in_ok-all.ensures.items

pub loop-row-preserved : goal.loop-row-preserved
loop-row-preserved c =
    one-taken _ (λ (r : Values). views (list_of r)) c.loop-row.left.items c.pop.new.self.items c.args.rows.items c.in-Some.row
    c.in_ok-row.row c.loop-row.all.items c.push.new.self.items c.loop-row.invariant c.in-Some.ensures.items c.in_ok-row.ensures
    c.in_ok-push.ensures.items

abbrev row_view : Values → meant.Values
row_view row = views (list_of row)

pub returns : goal.returns
returns c =
    let f : ℕ → ℕ = new_name c.args.names.now in
    let empty : c.loop-row.left.items ≡ [] = nothing-left c.loop-row.left.items
    (omega (arith, c.in_default.ensures.cases.0, c.loop-row.left.ok.0)) in
    all-taken (λ (r : Values). renamed_values f (row_view r)) row_view c.loop-row.left.items c.args.rows.items c.loop-row.all.items
    c.loop-row.invariant empty ∙ sym (map-mapped (renamed_values f) row_view c.args.rows.items)
