use Rattle.std.proofs.Common.{◌+◌, ◌∙◌, ap, arith, length}
use Rattle.std.proofs.lemmas.List.{take_all}
use Rattle.std.specs.Prelude.{sum_by}
use Rattle.p21_numbered.specs.declared.numbered_line.NumberedLine.{NumberedLine}
use Rattle.p21_numbered_file.proofs.FileSizes.{lines-sized}
use Rattle.p21_numbered_file.proofs.sizes.lines_size.Goals as goal

pub returns : goal.returns
returns c = c.loop-k.invariant ∙ ap (sum_by (λ (x : NumberedLine). length x.text.items + 1))
    (take_all c.loop-k.k c.args.lines.now (omega (arith, c.loop-k-test.false))) ∙ lines-sized c.args.lines.now
