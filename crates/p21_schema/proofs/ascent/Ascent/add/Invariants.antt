use Rattle.std.proofs.Common.{◌↔◌, ◌⊎◌, ℕ, Contains, take}
use Rattle.p21_express_graph.specs.Orders.{numbers}
use Rattle.p21_schema.specs.Ascent.{AscendsFurther}
use Rattle.p21_schema.proofs.ascent.Ascent.add.Given as goal

-- those so far are found
abbrev pub invariant-loop-supertype : goal.invariant-loop-supertype
invariant-loop-supertype l = AscendsFurther l.fn.self l.self
    × ((f : ℕ) → Contains l.self.above.items f ↔ (Contains l.fn.self.above.items f
    ⊎ Contains (numbers (take l.supertype-index l.supertypes)) f))
