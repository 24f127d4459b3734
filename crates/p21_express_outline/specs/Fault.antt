-- The refusals of a schema text: their numbers and names (this project's own).
use Rattle.std.specs.Prelude.{ℕ, List, codes}
use Rattle.p21_express_lexemes.specs.declared.fault.SyntaxFault.{SyntaxFault}
use Rattle.p21_express_lexemes.specs.declared.fault.SyntaxFault.TheVariants as syntax
use Rattle.p21_express_outline.specs.declared.fault.SchemaFault.{SchemaFault}
use Rattle.p21_express_outline.specs.declared.fault.SchemaFault.TheVariants.{Token, Syntax, Duplicate, UnknownName, Circular, LeftOut, Bounds, RedeclaredPlace, TooLarge, NoMemory}

abbrev pub fault_number : SchemaFault → ℕ
fault_number Token = 1
fault_number Syntax = 2
fault_number Duplicate = 3
fault_number UnknownName = 4
fault_number Circular = 5
fault_number LeftOut = 6
fault_number Bounds = 7
fault_number RedeclaredPlace = 8
fault_number TooLarge = 9
fault_number NoMemory = 90

abbrev pub fault_name : SchemaFault → List ℕ
fault_name Token = codes "Token"
fault_name Syntax = codes "Syntax"
fault_name Duplicate = codes "Duplicate"
fault_name UnknownName = codes "UnknownName"
fault_name Circular = codes "Circular"
fault_name LeftOut = codes "LeftOut"
fault_name Bounds = codes "Bounds"
fault_name RedeclaredPlace = codes "RedeclaredPlace"
fault_name TooLarge = codes "TooLarge"
fault_name NoMemory = codes "NoMemory"

-- a refusal of the reader of declarations
abbrev pub of_syntax : SyntaxFault → SchemaFault
of_syntax syntax.Token = Token
of_syntax syntax.Syntax = Syntax
of_syntax syntax.LeftOut = LeftOut
of_syntax syntax.Bounds = Bounds
of_syntax syntax.TooLarge = TooLarge
of_syntax syntax.NoMemory = NoMemory
