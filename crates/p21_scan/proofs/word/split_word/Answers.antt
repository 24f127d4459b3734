use Rattle.std.proofs.Common.{sym}
use Rattle.p21_scan.proofs.Classes.{upper-decides}
use Rattle.p21_scan.proofs.Words.{word-at}
use Rattle.p21_scan.proofs.word.split_word.Goals as goal

pub returns-clause-some : goal.returns-clause-some
returns-clause-some c =
    let run = c.long_prefix.ensures in
    rw (c.split_at.ensures.front, c.split_at.ensures.back) (word-at c.in_ok-first.first.now c.args.bytes.now c.in_ok-first._rest.now c.long_prefix.result c.in_ok-first.ensures.cases.0 ((upper-decides c.in_ok-first.first.now).0 (sym c.if-not-is_upper.ensures)) run.are run.ends)
