-- The refusals of files: their numbers and names.
use Rattle.std.specs.Prelude.{ℕ, List, codes}
use Rattle.p21_grammar.specs.Fault as grammar
use Rattle.p21_grammar.specs.declared.fault.GrammarFault.{GrammarFault}
use Rattle.p21_grammar.specs.declared.fault.GrammarFault.TheVariants as grammar_fault
use Rattle.p21_grammar_tree.specs.Fault as check
use Rattle.p21_grammar_tree.specs.declared.fault.CheckFault.{CheckFault}
use Rattle.p21_grammar_tree.specs.declared.fault.CheckFault.TheVariants as check_fault
use Rattle.p21_stream_statements.specs.declared.fault.Fault.{Fault}
use Rattle.p21_stream_statements.specs.declared.fault.Fault.TheVariants.{Token, Grammar, Check, SchemaName, SectionTwice, DuplicateName, CanonicalTooLong, Dangling, WrongTarget, NoMemory, Read, Write}
use Rattle.p21_tokens.specs.Fault as token
use Rattle.p21_tokens.specs.declared.fault.TokenFault.{TokenFault}
use Rattle.p21_tokens.specs.declared.fault.TokenFault.TheVariants as token_fault

abbrev pub fault_number : Fault → ℕ
fault_number (Token fault) = token.fault_number fault
fault_number (Grammar fault) = grammar.fault_number fault
fault_number (Check fault) = check.fault_number fault
fault_number CanonicalTooLong = 27
fault_number SchemaName = 31
fault_number SectionTwice = 33
fault_number DuplicateName = 40
fault_number Dangling = 56
fault_number WrongTarget = 57
fault_number NoMemory = 90
fault_number Read = 91
fault_number Write = 92

abbrev pub fault_name : Fault → List ℕ
fault_name (Token fault) = token.fault_name fault
fault_name (Grammar fault) = grammar.fault_name fault
fault_name (Check fault) = check.fault_name fault
fault_name CanonicalTooLong = codes "CanonicalTooLong"
fault_name SchemaName = codes "SchemaName"
fault_name SectionTwice = codes "SectionTwice"
fault_name DuplicateName = codes "DuplicateName"
fault_name Dangling = codes "Dangling"
fault_name WrongTarget = codes "WrongTarget"
fault_name NoMemory = codes "NoMemory"
fault_name Read = codes "ReadFault"
fault_name Write = codes "WriteFault"

-- the fault of a layer as that of a file: want of memory is the same fault in all layers
abbrev pub fault_of_token : TokenFault → Fault
fault_of_token token_fault.NoMemory = NoMemory
fault_of_token fault = Token fault

abbrev pub fault_of_grammar : GrammarFault → Fault
fault_of_grammar grammar_fault.NoMemory = NoMemory
fault_of_grammar fault = Grammar fault

abbrev pub fault_of_check : CheckFault → Fault
fault_of_check check_fault.NoMemory = NoMemory
fault_of_check fault = Check fault
