use Rattle.std.proofs.Common.{drop, take}
use Rattle.p21_stream_store.proofs.LaneLemmas.{long-row, same-rows}
use Rattle.p21_stream_store.proofs.same_front.has_same_row.Goals as goal

pub returns : goal.returns
returns c =
    same-rows (take 16 (drop c.args.at c.args.entities.now)) (take 16 (drop c.args.at c.args.others.now)) c.row_at-row.result
    c.row_at.result (long-row c.args.entities.now c.args.at c.requires.entities)
    (long-row c.args.others.now c.args.at c.requires.others) c.row_at-row.ensures
    c.row_at.ensures
