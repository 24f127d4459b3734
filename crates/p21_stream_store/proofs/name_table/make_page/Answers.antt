use Rattle.std.proofs.Common.{arith}
use Rattle.p21_stream_store.proofs.PageLemmas.{within_kept, within_more}
use Rattle.p21_stream_store.specs.Pages.{most_names}
use Rattle.p21_stream_store.proofs.name_table.make_page.Goals as goal

pub returns-in-Err-clause-room : goal.returns-in-Err-clause-room
returns-in-Err-clause-room c = within_more c.saturating_sub-marked.result c.args.count c.args.marks.now c.make_page.new.self
    (c.make_page.ensures.room, c.make_page.ensures.directory) (omega (arith, c.saturating_sub-marked.ensures))

pub returns-in-Ok-true-clause-room : goal.returns-in-Ok-true-clause-room
returns-in-Ok-true-clause-room c =
    within_kept (most_names c.args.count) c.args.marks.now c.make_page.new.self c.move_names.new.marks
    (within_more c.saturating_sub-marked.result c.args.count c.args.marks.now c.make_page.new.self
    (c.make_page.ensures.room, c.make_page.ensures.directory) (omega (arith, c.saturating_sub-marked.ensures)))
    c.move_names.ensures.room

pub returns-in-Ok-false-clause-room : goal.returns-in-Ok-false-clause-room
returns-in-Ok-false-clause-room c = within_more c.saturating_sub-marked.result c.args.count c.args.marks.now c.make_page.new.self
    (c.make_page.ensures.room, c.make_page.ensures.directory) (omega (arith, c.saturating_sub-marked.ensures))
