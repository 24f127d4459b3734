use Rattle.std.proofs.Common.{take}
use Rattle.p21_stream_kept.specs.Sections.{HaveNumbers, headings_of}
use Rattle.p21_stream_kept.proofs.sections.Sections.numbers_of.Given as goal

-- the sections so far have their numbers
abbrev pub invariant-loop-section : goal.invariant-loop-section
invariant-loop-section l = HaveNumbers l.self (headings_of (take l.section-index l.section-items)) l.numbers.items
