use Rattle.std.proofs.Common.{arith}
use Rattle.p21_stream_store.proofs.PageLemmas.{none_in, number_read}
use Rattle.p21_stream_store.proofs.pages.Pages.get.Goals as goal

pub returns-then-index-len : goal.returns-then-index-len
returns-then-index-len g c =
    none_in _ c.args.self.now.pages.items c.args.name c.index-page.result.now (omega (arith, c.if-number-len.false, c.len.ensures))
    c.index-page.ensures (omega (arith, c.if-index-len.true, c.len-2.ensures))

pub returns : goal.returns
returns g c =
    number_read _ c.args.self.now.pages.items c.args.name c.index-page.result.now (omega (arith, c.if-number-len.false, c.len.ensures))
    c.index-page.ensures
    _ (omega (arith, c.if-index-len.false, c.len-2.ensures)) c.index.ensures
