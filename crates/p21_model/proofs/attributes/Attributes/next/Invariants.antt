use Rattle.std.proofs.Common.{List, length, ◌≡◌, ◌≤◌}
use Rattle.p21_model.specs.Left.{TellsRows, left_size, schema_of}
use Rattle.p21_model.specs.Rows.{Row}
use Rattle.p21_model.proofs.attributes.Attributes.next.Given as goal

-- the same parameters are left
abbrev pub invariant-loop-self : goal.invariant-loop-self
invariant-loop-self l = ((rows : List Row) → TellsRows l.fn.self rows → TellsRows l.self rows) × (left_size l.self ≤ left_size l.fn.self)
    × (schema_of l.self ≡ schema_of l.fn.self)

abbrev pub decreases-loop-self : goal.decreases-loop-self
decreases-loop-self l = length l.self.values.rest.now
