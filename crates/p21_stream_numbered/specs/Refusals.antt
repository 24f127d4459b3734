-- The refusals of numbered files: their numbers and names.
use Rattle.std.specs.Prelude.{ℕ, List, codes}
use Rattle.p21_stream_statements.specs.Fault.{fault_name, fault_number}
use Rattle.p21_stream_numbered.specs.declared.refusal.NumberingRefusal.{NumberingRefusal}
use Rattle.p21_stream_numbered.specs.declared.refusal.NumberingRefusal.TheVariants.{Alike, Refused}

abbrev pub refusal_number : NumberingRefusal → ℕ
refusal_number (Refused refusal) = fault_number refusal.fault
refusal_number (Alike j k) = 59

abbrev pub refusal_name : NumberingRefusal → List ℕ
refusal_name (Refused refusal) = fault_name refusal.fault
refusal_name (Alike j k) = codes "Alike"
