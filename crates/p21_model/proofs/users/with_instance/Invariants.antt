use Rattle.std.proofs.Common.{List}
use Rattle.p21_model.proofs.UsesFound.{AreAdded}
use Rattle.p21_model.specs.Left.{left_size}
use Rattle.p21_model.specs.Rows.{AreRowsOf, Row}
use Rattle.p21_spec_exchange.specs.Record.{Record}
use Rattle.p21_spec_file.specs.CanonicalTexts.{IsInstanceText}
use Rattle.p21_model.proofs.users.with_instance.Given as goal

-- with those at the attributes that are left, they are all
abbrev pub invariant-loop-attribute : goal.invariant-loop-attribute
invariant-loop-attribute l =
    (record_ : Record) (stated : IsInstanceText l.instance.schema.now l.instance.name record_ l.instance.line.now) (found : List Row)
    → AreRowsOf l.instance.schema.now stated.canonical found
    → AreAdded l.user l.fn.rows.items l.more.items l.attributes found

abbrev pub decreases-loop-attribute : goal.decreases-loop-attribute
decreases-loop-attribute l = left_size l.attributes
