use Rattle.std.proofs.Common.{ap}
use Rattle.p21_stream_syntax.specs.Sections.{headings_of}
use Rattle.p21_stream_syntax.proofs.SectionNames.{none-named}
use Rattle.p21_stream_syntax.proofs.sections.Sections.new.Goals as goal

pub invariant_of-result : goal.invariant_of-result
invariant_of-result c = none-named _ _ (ap headings_of c.new.ensures.items) c.new-2.ensures.empty
