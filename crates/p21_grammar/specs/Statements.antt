-- The statements of the definitions that events stand for.
use Rattle.std.specs.Prelude.{List, [], ◌∷◌, Option, Some, None}
use Rattle.p21_spec_exchange.specs.DataSection.{unnamed, heading_of}
use Rattle.p21_spec_exchange.specs.Statement as meaning
use Rattle.p21_grammar_tree.specs.View.{items_of, part_view, record_view, views}
use Rattle.p21_grammar.specs.declared.event.Event.{Event}
use Rattle.p21_grammar.specs.declared.event.Event.TheVariants.{Section, Named, Header, Instance}
use Rattle.p21_grammar.specs.declared.event.Line.{Line}
use Rattle.p21_grammar.specs.declared.event.Line.TheVariants.{Begin, HeaderStart, SectionEnd, DataStart, Finish}

abbrev pub line_of : Line → meaning.SectionLine
line_of Begin = meaning.begin
line_of HeaderStart = meaning.header_start
line_of SectionEnd = meaning.section_end
line_of DataStart = meaning.data_start unnamed
line_of Finish = meaning.finish

abbrev pub statement_of : Event → meaning.Statement
statement_of (Section line) = meaning.section (line_of line)
statement_of (Named part) = meaning.section (meaning.data_start (heading_of (views (items_of part.params))))
statement_of (Header part) = meaning.header (part_view part)
statement_of (Instance name record_) = meaning.instance name (record_view record_)

-- the statement that a call answered, as a list
abbrev pub statements_of : Option Event → List meaning.Statement
statements_of None = []
statements_of (Some event) = statement_of event ∷ []
