use Rattle.std.proofs.Common.{ℕ, List}
use Rattle.p21_differences.proofs.Sets.{AreAhead}
use Rattle.p21_model.specs.EntitiesLeft.{AreEntitiesOf, entities_size}
use Rattle.p21_spec_exchange.specs.Record.{Record}
use Rattle.p21_spec_file.specs.CanonicalTexts.{IsInstanceText}
use Rattle.p21_differences.proofs.entity_sets.have_one_set.Given as goal

-- both lists began alike
abbrev pub invariant-loop-entity : goal.invariant-loop-entity
invariant-loop-entity l =
    (record_ other : Record) (stated : IsInstanceText l.schema l.name record_ l.first)
    (others : IsInstanceText l.schema l.name other l.second)
    (es fs : List ℕ) → AreEntitiesOf l.schema stated.canonical es → AreEntitiesOf l.schema others.canonical fs
    → AreAhead l.left l.others es fs

abbrev pub decreases-loop-entity : goal.decreases-loop-entity
decreases-loop-entity l = entities_size l.left
