-- The refusals of records: their numbers and their names.
use Rattle.std.specs.Prelude.{ℕ, List, codes}
use Rattle.p21_grammar_tree.specs.declared.fault.CheckFault.{CheckFault}
use Rattle.p21_grammar_tree.specs.declared.fault.CheckFault.TheVariants.{NumberRange, UnknownEntity, Abstract, PartMissing, PartTwice, Count, Missing, StarNotDerived, DerivedNotStar, WrongKind, Width, Bounds, NotDistinct, UnknownItem, SelectType, TwoRedeclarations, OneOf, NoMemory}
use Rattle.p21_values.specs.declared.fault.ValueFault.{ValueFault}
use Rattle.p21_values.specs.declared.fault.ValueFault.TheVariants as value

abbrev pub fault_number : CheckFault → ℕ
fault_number NumberRange = 8
fault_number UnknownEntity = 41
fault_number Abstract = 42
fault_number PartMissing = 43
fault_number PartTwice = 44
fault_number Count = 45
fault_number Missing = 46
fault_number StarNotDerived = 47
fault_number DerivedNotStar = 48
fault_number WrongKind = 49
fault_number Width = 50
fault_number Bounds = 51
fault_number NotDistinct = 52
fault_number UnknownItem = 53
fault_number SelectType = 54
fault_number TwoRedeclarations = 55
fault_number OneOf = 58
fault_number NoMemory = 90

abbrev pub fault_name : CheckFault → List ℕ
fault_name NumberRange = codes "NumberRange"
fault_name UnknownEntity = codes "UnknownEntity"
fault_name Abstract = codes "Abstract"
fault_name PartMissing = codes "PartMissing"
fault_name PartTwice = codes "PartTwice"
fault_name Count = codes "Count"
fault_name Missing = codes "Missing"
fault_name StarNotDerived = codes "StarNotDerived"
fault_name DerivedNotStar = codes "DerivedNotStar"
fault_name WrongKind = codes "WrongKind"
fault_name Width = codes "Width"
fault_name Bounds = codes "Bounds"
fault_name NotDistinct = codes "NotDistinct"
fault_name UnknownItem = codes "UnknownItem"
fault_name SelectType = codes "SelectType"
fault_name TwoRedeclarations = codes "TwoRedeclarations"
fault_name OneOf = codes "OneOf"
fault_name NoMemory = codes "NoMemory"

-- the fault of a number that no value of the type is
abbrev pub value_fault : ValueFault → CheckFault
value_fault value.NumberRange = NumberRange
value_fault value.NoMemory = NoMemory
value_fault value.BadNumber = WrongKind
value_fault value.BadBinary = WrongKind
value_fault value.NameRange = WrongKind
value_fault value.BadName = WrongKind
value_fault value.BadWord = WrongKind
