use Rattle.std.proofs.Common.{◌↔◌, ◌⊎◌, ℕ, Contains, take}
use Rattle.p21_express_graph.specs.Orders.{numbers}
use Rattle.p21_schema.specs.Ascent.{AscendsFurther}
use Rattle.p21_schema.proofs.Ascents.{HasBelow}
use Rattle.p21_schema.proofs.schema.Schema.find_next.Given as goal

-- those of the entities so far are found
abbrev pub invariant-loop-entity : goal.invariant-loop-entity
invariant-loop-entity l = AscendsFurther l.fn.ascent l.ascent
    × ((f : ℕ) → Contains l.ascent.above.items f ↔ (Contains l.fn.ascent.above.items f
    ⊎ HasBelow l.self (numbers (take l.entity-index l.entities)) f))
