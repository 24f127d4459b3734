-- How far the statements of a file have come (ISO 10303-21, formal definition of the exchange structure).
use Rattle.std.specs.Prelude.{Bool, true, false, List, [], ◌∷◌, Result, Ok, Err}
use Rattle.p21_spec_exchange.specs.DataSection.{unnamed, named}
use Rattle.p21_spec_exchange.specs.Record.{Part}
use Rattle.p21_spec_exchange.specs.Statement.{SectionLine, begin, header_start, section_end, data_start, finish, Statement, section, header, instance}
use Rattle.p21_tokens_automaton.specs.declared.mode.Absent.TheVariants.{SecondSection}
use Rattle.p21_grammar.specs.Shape.{is_file_description, is_file_name, is_file_schema, is_further}
use Rattle.p21_grammar.specs.declared.fault.GrammarFault.{GrammarFault}
use Rattle.p21_grammar.specs.declared.fault.GrammarFault.TheVariants.{Unexpected, HeaderShape, LeftOut}
use Rattle.p21_grammar.specs.declared.stage.Stage.{Stage}
use Rattle.p21_grammar.specs.declared.stage.Stage.TheVariants.{Start, Begun, Description, FileName, FileSchema, Further, Headed, Unnamed, Named, BehindUnnamed, BehindNamed, Ended}

abbrev pub is_in_header : Stage → Bool
is_in_header Description = true
is_in_header FileName = true
is_in_header FileSchema = true
is_in_header Further = true
is_in_header other = false

abbrev pub is_in_data : Stage → Bool
is_in_data Unnamed = true
is_in_data Named = true
is_in_data other = false

-- the stage of a header record that has the right shape
abbrev pub shaped : Bool → Stage → Result Stage GrammarFault
shaped true stage = Ok stage
shaped false stage = Err HeaderShape

abbrev pub after_part : Stage → Part → Result Stage GrammarFault
after_part Description part = shaped (is_file_description part) FileName
after_part FileName part = shaped (is_file_name part) FileSchema
after_part FileSchema part = shaped (is_file_schema part) Further
after_part Further part = shaped (is_further part) Further
after_part other part = Err Unexpected

abbrev pub after_line : Stage → SectionLine → Result Stage GrammarFault
after_line Start begin = Ok Begun
after_line Begun header_start = Ok Description
after_line Description section_end = Err HeaderShape
after_line FileName section_end = Err HeaderShape
after_line FileSchema section_end = Err HeaderShape
after_line Further section_end = Ok Headed
after_line Headed (data_start unnamed) = Ok Unnamed
after_line Headed (data_start (named name schema)) = Ok Named
after_line Unnamed section_end = Ok BehindUnnamed
after_line Named section_end = Ok BehindNamed
after_line BehindNamed (data_start unnamed) = Err (LeftOut SecondSection)
after_line BehindNamed (data_start (named name schema)) = Ok Named
after_line BehindUnnamed finish = Ok Ended
after_line BehindNamed finish = Ok Ended
after_line stage line = Err Unexpected

-- behind a DATA with a name
abbrev pub after_heading : Stage → Result Stage GrammarFault
after_heading Headed = Ok Named
after_heading BehindNamed = Ok Named
after_heading other = Err Unexpected

-- the stage behind a statement, or why no file has it there
abbrev pub after : Stage → Statement → Result Stage GrammarFault
after stage (section line) = after_line stage line
after stage (header part) = after_part stage part
after Unnamed (instance n record_) = Ok Unnamed
after Named (instance n record_) = Ok Named
after stage (instance n record_) = Err Unexpected

abbrev pub then_walk : (Stage → Result Stage GrammarFault) → Result Stage GrammarFault → Result Stage GrammarFault
then_walk next (Ok stage) = next stage
then_walk next (Err fault) = Err fault

-- the stage behind statements, one after the other
abbrev pub walk : List Statement → Stage → Result Stage GrammarFault
walk [] stage = Ok stage
walk (s ∷ ss) stage = then_walk (walk ss) (after stage s)
