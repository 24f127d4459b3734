-- The refusals of the lexer and of one parameter: their numbers and names.
use Rattle.std.specs.Prelude.{ℕ, List, Option, Some, None, codes}
use Rattle.p21_tokens_automaton.specs.declared.mode.Absent.{Absent}
use Rattle.p21_tokens_automaton.specs.declared.mode.Absent.TheVariants.{Scope, ValueName, ConstantName, UserKeyword, Anchor, Reference, Signature, SecondSection, NoDataSection}
use Rattle.p21_tokens_automaton.specs.declared.mode.Action.{Action}
use Rattle.p21_tokens_automaton.specs.declared.mode.Action.TheVariants.{Close, End, Refuse}
use Rattle.p21_tokens_automaton.specs.declared.mode.Mode.{Mode}
use Rattle.p21_tokens_automaton.specs.declared.mode.Mode.TheVariants.{Comment, Star, Number, Binary, Text}
use Rattle.p21_tokens_automaton.specs.declared.mode.NumberMode.TheVariants.{Fraction, ExponentDigits}
use Rattle.p21_tokens_automaton.specs.declared.mode.Wrong.{Wrong}
use Rattle.p21_tokens_automaton.specs.declared.mode.Wrong.TheVariants as wrong
use Rattle.p21_tokens.specs.declared.fault.TokenFault.{TokenFault}
use Rattle.p21_tokens.specs.declared.fault.TokenFault.TheVariants.{BadByte, OpenString, OpenComment, BadDirective, BadCodePoint, NotUtf8, BadNumber, NumberRange, BadBinary, NameRange, BadName, NotOneParameter, RecordTooLong, FileTooLong, EndsEarly, LeftOut, NoMemory}
use Rattle.p21_values.specs.declared.fault.ValueFault.{ValueFault}
use Rattle.p21_values.specs.declared.fault.ValueFault.TheVariants as value

-- what a fault is of: a byte that nothing goes on with, the end of the bytes, the limit on a statement or on a file, a
-- parameter that is no scalar, or want of memory
pub data Cause : Type 0 where
  of_form : Cause
  of_end : Cause
  of_statement : Cause
  of_file : Cause
  of_parameter : Cause
  of_memory : Cause

-- each fault stands here, so that a new one has to be put somewhere
abbrev pub cause_of : TokenFault → Cause
cause_of BadByte = of_form
cause_of OpenString = of_end
cause_of OpenComment = of_end
cause_of BadDirective = of_form
cause_of BadCodePoint = of_form
cause_of NotUtf8 = of_form
cause_of BadNumber = of_form
cause_of NumberRange = of_form
cause_of BadBinary = of_form
cause_of NameRange = of_form
cause_of BadName = of_form
cause_of NotOneParameter = of_parameter
cause_of RecordTooLong = of_statement
cause_of FileTooLong = of_file
cause_of EndsEarly = of_end
cause_of (LeftOut absent) = of_form
cause_of NoMemory = of_memory

-- a fault of the bytes, not of limits or memory
abbrev pub IsOfForm : TokenFault → Type 0
IsOfForm fault = elim (cause_of fault) [
  | of_form ↦ Unit {0}
  | of_end ↦ ⊥
  | of_statement ↦ ⊥
  | of_file ↦ ⊥
  | of_parameter ↦ ⊥
  | of_memory ↦ ⊥
]

abbrev pub IsOfLimit : TokenFault → Type 0
IsOfLimit fault = elim (cause_of fault) [
  | of_form ↦ ⊥
  | of_end ↦ ⊥
  | of_statement ↦ Unit {0}
  | of_file ↦ Unit {0}
  | of_parameter ↦ ⊥
  | of_memory ↦ ⊥
]

-- a fault that the end of the bytes may have: a last real may be out of range
abbrev pub IsOfTheEnd : TokenFault → Type 0
IsOfTheEnd fault = elim (cause_of fault) [
  | of_form ↦ Unit {0}
  | of_end ↦ Unit {0}
  | of_statement ↦ ⊥
  | of_file ↦ ⊥
  | of_parameter ↦ ⊥
  | of_memory ↦ Unit {0}
]

-- a fault that reading tokens may have, which is each but that of a text that is no single parameter
abbrev pub IsOfTokens : TokenFault → Type 0
IsOfTokens fault = elim (cause_of fault) [
  | of_form ↦ Unit {0}
  | of_end ↦ Unit {0}
  | of_statement ↦ Unit {0}
  | of_file ↦ Unit {0}
  | of_parameter ↦ ⊥
  | of_memory ↦ Unit {0}
]

abbrev pub IsRefusalOfTokens : Option TokenFault → Type 0
IsRefusalOfTokens None = Unit {0}
IsRefusalOfTokens (Some fault) = IsOfTokens fault

abbrev pub fault_number : TokenFault → ℕ
fault_number BadByte = 1
fault_number OpenString = 2
fault_number OpenComment = 3
fault_number BadDirective = 4
fault_number BadCodePoint = 5
fault_number NotUtf8 = 6
fault_number BadNumber = 7
fault_number NumberRange = 8
fault_number BadBinary = 9
fault_number NameRange = 10
fault_number BadName = 11
fault_number NotOneParameter = 12
fault_number RecordTooLong = 22
fault_number FileTooLong = 23
fault_number EndsEarly = 24
fault_number (LeftOut absent) = 26
fault_number NoMemory = 90

abbrev pub absent_name : Absent → List ℕ
absent_name Scope = codes "LeftOut(Scope)"
absent_name ValueName = codes "LeftOut(ValueName)"
absent_name ConstantName = codes "LeftOut(ConstantName)"
absent_name UserKeyword = codes "LeftOut(UserKeyword)"
absent_name Anchor = codes "LeftOut(Anchor)"
absent_name Reference = codes "LeftOut(Reference)"
absent_name Signature = codes "LeftOut(Signature)"
absent_name SecondSection = codes "LeftOut(SecondSection)"
absent_name NoDataSection = codes "LeftOut(NoDataSection)"

abbrev pub fault_name : TokenFault → List ℕ
fault_name BadByte = codes "BadByte"
fault_name OpenString = codes "OpenString"
fault_name OpenComment = codes "OpenComment"
fault_name BadDirective = codes "BadDirective"
fault_name BadCodePoint = codes "BadCodePoint"
fault_name NotUtf8 = codes "NotUtf8"
fault_name BadNumber = codes "BadNumber"
fault_name NumberRange = codes "NumberRange"
fault_name BadBinary = codes "BadBinary"
fault_name NameRange = codes "NameRange"
fault_name BadName = codes "BadName"
fault_name NotOneParameter = codes "NotOneParameter"
fault_name RecordTooLong = codes "RecordTooLong"
fault_name FileTooLong = codes "FileTooLong"
fault_name EndsEarly = codes "EndsEarly"
fault_name (LeftOut absent) = absent_name absent
fault_name NoMemory = codes "NoMemory"

-- the fault of a byte
abbrev pub fault_of : Wrong → TokenFault
fault_of wrong.Byte = BadByte
fault_of wrong.Directive = BadDirective
fault_of wrong.CodePoint = BadCodePoint
fault_of wrong.Utf8 = NotUtf8
fault_of wrong.Number = BadNumber
fault_of wrong.Binary = BadBinary
fault_of wrong.NameRange = NameRange
fault_of wrong.Name = BadName
fault_of (wrong.LeftOut absent) = LeftOut absent

-- the fault of form of what a byte does: one that ends a token is refused only behind a real out of range
abbrev pub form_fault : Mode → Action → TokenFault
form_fault mode (Refuse wrong) = fault_of wrong
form_fault mode End = NumberRange
form_fault (Binary mode) Close = BadBinary
form_fault mode other = BadByte

-- the fault of bytes that end in a state: those that end behind a real are refused only where it is out of range
abbrev pub end_fault : Mode → TokenFault
end_fault Comment = OpenComment
end_fault Star = OpenComment
end_fault (Text mode) = OpenString
end_fault (Number Fraction) = NumberRange
end_fault (Number ExponentDigits) = NumberRange
end_fault other = EndsEarly

-- the fault of a token whose spelling a reader of values refuses
abbrev pub value_fault : ValueFault → TokenFault
value_fault value.BadNumber = BadNumber
value_fault value.NumberRange = NumberRange
value_fault value.BadBinary = BadBinary
value_fault value.NameRange = NameRange
value_fault value.BadName = BadName
value_fault value.BadWord = BadByte
value_fault value.NoMemory = NoMemory
