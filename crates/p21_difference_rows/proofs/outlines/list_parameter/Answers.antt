use Rattle.std.specs.Prelude.{refl}
use Rattle.p21_difference_rows.proofs.Adding.{none-added}
use Rattle.p21_difference_rows.specs.Asked.{left_out_of}
use Rattle.p21_difference_rows.specs.RealNames.{real_name}
use Rattle.p21_difference_rows.specs.Steps.{TellsNone}
use Rattle.p21_difference_rows.proofs.outlines.list_parameter.Goals as goal

pub returns-then-is_ignored : goal.returns-then-is_ignored
returns-then-is_ignored c =
    let style = c.args.style.now in
    none-added style.form style.schema.now (real_name style.names) (left_out_of style.left_out) TellsNone c.args.rows.now.text.items refl
