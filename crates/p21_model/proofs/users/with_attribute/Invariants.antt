use Rattle.std.proofs.Common.{length}
use Rattle.p21_express_graph.specs.Meaning.{place as place_of}
use Rattle.p21_model.proofs.UseNames.{AreNamed}
use Rattle.p21_model_values.specs.Written.{IsTextOf}
use Rattle.p21_spec_exchange.specs.Parameter.{Param}
use Rattle.p21_model.proofs.users.with_attribute.Given as goal

-- with those of the names that are left, they are all
abbrev pub invariant-loop-name : goal.invariant-loop-name
invariant-loop-name l = (p : Param) → IsTextOf l.attribute.value.text.now p
    → AreNamed l.user (place_of l.attribute.place) p l.fn.rows.items l.more.items l.references.rest.now

abbrev pub decreases-loop-name : goal.decreases-loop-name
decreases-loop-name l = length l.references.rest.now
