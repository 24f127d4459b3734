-- What a statement of a file has in itself, wherever it stands (ISO 10303-21, header section; data sections).
use Rattle.std.specs.List.{AllByRecursion as Each}
use Rattle.p21_spec_exchange.specs.Grammar.{IsShallowPart, IsDataRecord}
use Rattle.p21_spec_exchange.specs.Header.{IsNoInstanceName}
use Rattle.p21_spec_exchange.specs.Record.{part_tokens}
use Rattle.p21_spec_exchange.specs.Statement.{Statement, section, header, instance}

-- a header record is not nested too deep and holds no instance name; the record of an instance is one of the data section
abbrev pub IsSound : Statement → Type 0
IsSound (section line) = Unit {0}
IsSound (header part) = IsShallowPart part × Each IsNoInstanceName (part_tokens part)
IsSound (instance n record_) = IsDataRecord record_
