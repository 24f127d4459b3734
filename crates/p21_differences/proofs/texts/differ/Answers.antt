use Rattle.std.proofs.Common.{◌∙◌, sym}
use Rattle.std.proofs.lemmas.Slice.Eq.{bytes_eq-Decides}
use Rattle.p21_differences.proofs.texts.differ.Goals as goal

pub returns-then-eq : goal.returns-then-eq
returns-then-eq c = (bytes_eq-Decides c.args.one.now c.args.other.now).0 (sym c.eq.ensures ∙ c.if-eq.true)

pub returns : goal.returns
returns c same =
    let yes = (bytes_eq-Decides c.args.one.now c.args.other.now).1 same in
    let answer = c.eq.ensures in
    let no = c.if-eq.false in
    cc
