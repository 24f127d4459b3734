use Rattle.p21_stream_output.proofs.Searching.{none-filed}
use Rattle.p21_stream_output.proofs.search.section_line.Goals as goal

pub line_of_section-requires-clause-small : goal.line_of_section-requires-clause-small
line_of_section-requires-clause-small c = c.in-Some.ensures.fits

pub returns-clause-none : goal.returns-clause-none
returns-clause-none c none among = none-filed c.args.sections.now c.args.instances.now c.args.name c.requires.filed
    (c.line_of_section.ensures.none none) among
