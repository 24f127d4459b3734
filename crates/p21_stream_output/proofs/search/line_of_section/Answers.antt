use Rattle.std.proofs.Common.{sym}
use Rattle.p21_stream_output.proofs.Searching.{all-sections, first-among, first-placed, none-left, one-passed}
use Rattle.p21_stream_output.proofs.search.line_of_section.Goals as goal

pub loop-section-init : goal.loop-section-init
loop-section-init c = all-sections c.args.instances.now c.args.name c.args.sections.now c.requires.placed

pub has_name-requires-clause-placed : goal.has_name-requires-clause-placed
has_name-requires-clause-placed c =
    first-placed c.args.instances.now c.args.name c.args.sections.now c.loop-section.left.now c.in-Some.behind.now c.in-Some.section.now
    c.loop-section.invariant c.in-Some.ensures.cases.0

pub returns-then-has_name-clause-some : goal.returns-then-has_name-clause-some
returns-then-has_name-clause-some c = (
  c.in-Some.section.now,
  first-among c.args.instances.now c.args.name c.args.sections.now c.loop-section.left.now c.in-Some.behind.now c.in-Some.section.now
      c.loop-section.invariant c.in-Some.ensures.cases.0,
  sym c.deref.ensures.value,
  c.has_name.ensures.yes c.if-has_name.true,
)

pub loop-section-preserved : goal.loop-section-preserved
loop-section-preserved c =
    one-passed c.args.instances.now c.args.name c.args.sections.now c.loop-section.left.now c.in-Some.behind.now c.in-Some.section.now
    c.loop-section.invariant c.in-Some.ensures.cases.0 (c.has_name.ensures.no c.if-has_name.false)

pub returns-clause-none : goal.returns-clause-none
returns-clause-none c none = none-left c.args.instances.now c.args.name c.args.sections.now c.loop-section.left.now c.loop-section.invariant
    c.in_default.ensures.cases
