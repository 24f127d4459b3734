use Rattle.std.proofs.Common.{ap, length, sym, ◌∙◌}
use Rattle.p21_stream_output.proofs.Whole.{ended, placed}
use Rattle.p21_stream_output.proofs.Written.{filed, has-lines}
use Rattle.p21_stream_output.proofs.ending.accepted_file.Goals as goal

pub new-requires-clause-placed : goal.new-requires-clause-placed
new-requires-clause-placed c =
    placed c.args.memberships.now c.args.instances c.args.parts.items c.file_instances.new.parts.items c.sort_sections.new.parts.items
    c.in_ok-sections.sections.items c.requires.empty c.in_ok-file_instances.ensures.rows c.sort_sections.ensures.same
    c.in_ok-sections.ensures

pub new-requires-clause-len : goal.new-requires-clause-len
new-requires-clause-len c =
    let has = c.requires.size in
    let file =
    ended has.kept c.args.header.items c.args.parts.items c.file_instances.new.parts.items c.sort_sections.new.parts.items
    c.args.memberships.now c.args.instances c.in_ok-sections.sections.items c.args.statement c.requires.empty
    c.in_ok-file_instances.ensures.heads c.in_ok-file_instances.ensures.rows c.sort_sections.ensures.same c.sort_sections.ensures.sorted
    c.in_ok-sections.ensures has.stands has.once in
    sym (ap length file.text_is ∙ has.size_is file.blocks file.are_blocks)

pub new-requires-clause-lines : goal.new-requires-clause-lines
new-requires-clause-lines c =
    has-lines c.args.header.items c.args.memberships.now c.args.instances c.args.parts.items c.file_instances.new.parts.items
    c.sort_sections.new.parts.items c.in_ok-sections.sections.items c.args.statement c.requires.memberships c.requires.sections
    c.requires.named
    c.requires.empty c.in_ok-file_instances.ensures.heads c.in_ok-file_instances.ensures.rows c.sort_sections.ensures.same
    c.in_ok-sections.ensures

pub new-requires-clause-filed : goal.new-requires-clause-filed
new-requires-clause-filed c =
    filed c.args.memberships.now c.args.instances c.args.parts.items c.file_instances.new.parts.items c.sort_sections.new.parts.items
    c.in_ok-sections.sections.items c.requires.memberships c.requires.sections
    c.requires.empty c.in_ok-file_instances.ensures.heads c.in_ok-file_instances.ensures.rows c.sort_sections.ensures.same
    c.in_ok-sections.ensures

pub returns-clause-kept : goal.returns-clause-kept
returns-clause-kept c = λ kept stands once.
    rw c.new.ensures
    (ended kept c.args.header.items c.args.parts.items c.file_instances.new.parts.items c.sort_sections.new.parts.items
    c.args.memberships.now c.args.instances c.in_ok-sections.sections.items c.args.statement c.requires.empty
    c.in_ok-file_instances.ensures.heads c.in_ok-file_instances.ensures.rows c.sort_sections.ensures.same c.sort_sections.ensures.sorted
    c.in_ok-sections.ensures stands once)
