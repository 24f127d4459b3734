use Rattle.std.proofs.Common.{◌≡◌}
use Rattle.p21_difference_rows.proofs.Beside.{IsHalfway}
use Rattle.p21_differences.specs.OtherValues.{values_schema, values_size}
use Rattle.p21_spec_exchange.specs.Record.{Record}
use Rattle.p21_spec_file.specs.CanonicalTexts.{IsInstanceText}
use Rattle.p21_difference_rows.specs.Asked.{left_out_of}
use Rattle.p21_difference_rows.specs.RealNames.{real_name}
use Rattle.p21_difference_rows.proofs.values.list_values.Given as goal

-- the attributes so far are told
abbrev pub invariant-loop-found : goal.invariant-loop-found
invariant-loop-found l =
    (values_schema l.values ≡ l.style.schema.now)
    × ((record_ other : Record) (stated : IsInstanceText l.style.schema.now l.name record_ l.line)
    (others : IsInstanceText l.style.schema.now l.name other l.other_line)
    → stated.canonical_meaning.entities ≡ others.canonical_meaning.entities
    → IsHalfway l.style.form l.style.schema.now (real_name l.style.names) (left_out_of l.style.left_out) l.name
    stated.canonical_meaning others.canonical_meaning l.values l.fn.rows.text.items l.rows.text.items)

abbrev pub decreases-loop-found : goal.decreases-loop-found
decreases-loop-found l = values_size l.values
