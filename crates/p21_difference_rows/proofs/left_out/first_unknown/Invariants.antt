use Rattle.p21_difference_rows.proofs.Knowing.{IsLeftToSay}
use Rattle.p21_difference_rows.specs.Asked.{attribute_name_of}
use Rattle.p21_spec_differences.specs.LeftOut.{MayBeMeant}
use Rattle.p21_difference_rows.proofs.left_out.first_unknown.Given as goal

-- each of the names so far may be meant
abbrev pub invariant-loop-name : goal.invariant-loop-name
invariant-loop-name l = IsLeftToSay attribute_name_of (MayBeMeant l.schema) l.names l.name-index
