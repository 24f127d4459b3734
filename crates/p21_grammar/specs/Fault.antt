-- The numbers and the names of the refusals.
use Rattle.std.specs.Prelude.{ℕ, List, codes}
use Rattle.p21_tokens.specs.Fault.{absent_name}
use Rattle.p21_grammar.specs.declared.fault.GrammarFault.{GrammarFault}
use Rattle.p21_grammar.specs.declared.fault.GrammarFault.TheVariants.{Unexpected, TooDeep, EndsEarly, AfterEnd, LeftOut, HeaderShape, SectionShape, NoMemory}

abbrev pub fault_number : GrammarFault → ℕ
fault_number Unexpected = 20
fault_number TooDeep = 21
fault_number EndsEarly = 24
fault_number AfterEnd = 25
fault_number (LeftOut absent) = 26
fault_number HeaderShape = 30
fault_number SectionShape = 32
fault_number NoMemory = 90

abbrev pub fault_name : GrammarFault → List ℕ
fault_name Unexpected = codes "Unexpected"
fault_name TooDeep = codes "TooDeep"
fault_name EndsEarly = codes "EndsEarly"
fault_name AfterEnd = codes "AfterEnd"
fault_name (LeftOut absent) = absent_name absent
fault_name HeaderShape = codes "HeaderShape"
fault_name SectionShape = codes "SectionShape"
fault_name NoMemory = codes "NoMemory"
