use Rattle.p21_difference_rows.proofs.Ignoring.{IsLeftOf}
use Rattle.p21_model.specs.EntitiesLeft.{entities_size}
use Rattle.p21_spec_exchange.specs.Record.{Record}
use Rattle.p21_spec_file.specs.CanonicalTexts.{IsInstanceText}
use Rattle.p21_difference_rows.proofs.left_out.is_of.Given as goal

-- the entity was not met
abbrev pub invariant-loop-found : goal.invariant-loop-found
invariant-loop-found l =
    (record_ : Record) (stated : IsInstanceText l.instance.schema.now l.instance.name record_ l.instance.line.now)
    → IsLeftOf l.left stated.canonical_meaning.entities l.entity.0

abbrev pub decreases-loop-found : goal.decreases-loop-found
decreases-loop-found l = entities_size l.left
