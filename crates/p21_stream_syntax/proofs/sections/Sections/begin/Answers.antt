use Rattle.std.proofs.Common.{refl}
use Rattle.p21_stream_syntax.proofs.SectionNames.{section-unnamed}
use Rattle.p21_stream_syntax.proofs.sections.Sections.begin.Goals as goal

pub invariant_of-self-in-DataStart : goal.invariant_of-self-in-DataStart
invariant_of-self-in-DataStart c = section-unnamed _ _ _ _ c.in-Ok.ensures.items refl c.self.invariant
