use Rattle.std.proofs.Common.{arith}
use Rattle.std.proofs.lemmas.Bool.{false≢true}
use Rattle.p21_numbered_file.proofs.FileSizes.{line-within}
use Rattle.p21_numbered_file.proofs.sizes.are_within.Goals as goal

pub returns-then-len-most : goal.returns-then-len-most
returns-then-len-most c = (
  λ yes. absurd (false≢true yes),
  λ each. absurd (
      let within = line-within c.args.most c.args.lines.now c.loop-line.line-index c.line-item.result c.loop-line-test.true c.line-item.is
      each in
      omega (arith, within, c.len.ensures, c.if-len-most.true)
      ),
)
