use Rattle.p21_schema.specs.Ascent.{AscendsFurther}
use Rattle.p21_schema.proofs.Ascents.{AreUpTo}
use Rattle.p21_schema.proofs.schema.Schema.find_rest.Given as goal

-- those of the first so many are found
abbrev pub invariant-loop-at : goal.invariant-loop-at
invariant-loop-at l = AscendsFurther l.fn.ascent l.ascent × AreUpTo l.self l.fn.ascent.above.items l.ascent.above.items l.at
