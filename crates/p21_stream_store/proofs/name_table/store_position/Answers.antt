use Rattle.p21_stream_store.proofs.PageLemmas.{within_between}
use Rattle.p21_stream_store.specs.Pages.{most_names}
use Rattle.p21_stream_store.proofs.name_table.store_position.Goals as goal

pub returns-then-mark-2-clause-room : goal.returns-then-mark-2-clause-room
returns-then-mark-2-clause-room c =
    within_between (most_names c.args.place) c.args.marks.now c.mark.new.marks c.make_page.new.marks c.mark-2.new.marks c.mark.ensures.room
    c.make_page.ensures.room c.mark-2.ensures.room

pub returns-in_default-insert-clause-room : goal.returns-in_default-insert-clause-room
returns-in_default-insert-clause-room c =
    within_between (most_names c.args.place) c.args.marks.now c.mark.new.marks c.make_page.new.marks c.mark-2.new.marks c.mark.ensures.room
    c.make_page.ensures.room c.mark-2.ensures.room

pub returns-clause-room : goal.returns-clause-room
returns-clause-room c =
    within_between (most_names c.args.place) c.args.marks.now c.mark.new.marks c.make_page.new.marks c.mark-2.new.marks c.mark.ensures.room
    c.make_page.ensures.room c.mark-2.ensures.room
