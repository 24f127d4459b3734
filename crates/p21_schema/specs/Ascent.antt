-- Supertypes that are found on the way up.
use Rattle.std.specs.Prelude.{◌≡◌, ◌↔◌, ℕ, ◌+◌, length, Contains}
use Rattle.p21_express_graph.specs.Prefixes.{BeginsWith}
use Rattle.p21_express_graph.specs.Walk.{IsDone, open_count}
use Rattle.p21_schema.specs.declared.ascent.Ascent.{Ascent}

-- those that are found are marked, and each of them stands there once
pub record Ascends (ascent : Ascent) : Type 0 where
  pub same : (f : ℕ) → Contains ascent.above.items f ↔ IsDone ascent.marked.items f
  pub once : length ascent.above.items + open_count ascent.marked.items ≡ length ascent.marked.items

-- more of as many entities may be found, and what was found stays in its place
pub record AscendsFurther (before after : Ascent) : Type 0 where
  pub ascends : Ascends after
  pub size : length after.marked.items ≡ length before.marked.items
  pub begins : BeginsWith after.above.items before.above.items
