use Rattle.std.proofs.Common.{arith}
use Rattle.std.proofs.lemmas.List.Elements.{Contains-get_or}
use Rattle.p21_numbering.proofs.key_rows.with_entries.Goals as goal

pub bounds-fresh-node : goal.bounds-fresh-node
bounds-fresh-node c =
    let low = c.requires.uses _ (Contains-get_or c.args.uses.now c.loop-one.one-index (0, 0) c.loop-one-test.true) in
    omega (arith, low, c.requires.long)
