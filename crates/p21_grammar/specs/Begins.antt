-- With which kinds of token the machine goes on: for private clauses.
use Rattle.std.specs.Prelude.{ℕ, Bool, true, false, ◌&&◌, not, if◌then◌else◌, ◌==◌, suc, List, length, Result, Ok, Err, codes}
use Rattle.p21_spec_exchange.specs.DataSection.{unnamed}
use Rattle.p21_spec_exchange.specs.Parameter.{Key, Params, no_params, param}
use Rattle.p21_spec_exchange.specs.Record.{Part}
use Rattle.p21_spec_exchange.specs.Statement.{section, header, instance, section_end, data_start}
use Rattle.p21_grammar.specs.Expected.{is_of_form}
use Rattle.p21_grammar.specs.Machine.{Head, bare, part_row, list_row, typed_row, Open, open_at, Spot, idle, line, named, equal, inside, keyed, next, word, behind, record_end, instance_end}
use Rattle.p21_grammar.specs.Shape.{is_heading, is_key}
use Rattle.p21_grammar.specs.Stage.{after, after_heading, is_in_header}
use Rattle.p21_grammar.specs.declared.fault.GrammarFault.{GrammarFault}
use Rattle.p21_grammar.specs.declared.kind.Kind.{Kind}
use Rattle.p21_grammar.specs.declared.kind.Kind.TheVariants as kind
use Rattle.p21_grammar.specs.declared.stage.Stage.{Stage}
use Rattle.p21_grammar.specs.declared.stage.Stage.TheVariants.{Start, Begun, Description, FileName, FileSchema, Further, Headed, Unnamed, Named, BehindUnnamed, BehindNamed}

abbrev pub is_keyword : Kind → Bool
is_keyword kind.HeaderStart = true
is_keyword kind.DataStart = true
is_keyword kind.SectionEnd = true
is_keyword kind.Keyword = true
is_keyword other = false

abbrev pub begins_header_record : Kind → Bool
begins_header_record kind.UserKeyword = true
begins_header_record other = is_keyword other

-- where no statement is open
abbrev pub begins : Stage → Kind → Bool
begins Start kind.Begin = true
begins Begun kind.HeaderStart = true
begins Description k = begins_header_record k
begins FileName k = begins_header_record k
begins FileSchema k = begins_header_record k
begins Further k = begins_header_record k
begins Headed kind.DataStart = true
begins Unnamed kind.Name = true
begins Unnamed kind.SectionEnd = true
begins Named kind.Name = true
begins Named kind.SectionEnd = true
begins BehindUnnamed kind.Finish = true
begins BehindNamed kind.DataStart = true
begins BehindNamed kind.Finish = true
begins other k = false

-- a `;` ends a statement, whatever its form
abbrev pub ends : Result Stage GrammarFault → Bool
ends (Ok at_stage) = true
ends (Err why) = is_of_form why

abbrev pub ends_keyword : Stage → Key → Bool
ends_keyword at_stage k =
    if is_in_header at_stage
    then (if is_key (codes "ENDSEC") k then ends (after at_stage (section section_end)) else false)
    else (if is_key (codes "DATA") k then ends (after at_stage (section (data_start unnamed))) else false)

-- the `;` behind the keyword of a simple record
abbrev pub takes_end : Stage → Head → Key → Bool
takes_end at_stage bare k = ends_keyword at_stage k
takes_end at_stage h k = false

abbrev pub ends_record : Stage → Part → Bool
ends_record at_stage p =
    if is_in_header at_stage then ends (after at_stage (header p)) else (if is_heading p then ends (after_heading at_stage) else true)

abbrev pub count : Params → ℕ
count no_params = 0
count (param p ps) = suc (count ps)

-- a parenthesis behind the parameters of a row
abbrev pub closes : Open → List Open → Bool
closes (open_at (part_row h k) ps) st = true
closes (open_at list_row ps) st = not (length st == 0)
closes (open_at (typed_row k) ps) st = not (length st == 0) && (count ps == 1)

abbrev pub closes_empty : Open → List Open → Bool
closes_empty (open_at o ps) st = (count ps == 0) && closes (open_at o ps) st

abbrev pub has_comma : Open → Bool
has_comma (open_at (typed_row k) ps) = false
has_comma (open_at o ps) = true

-- where a parameter may begin
abbrev pub begins_param : Stage → Open → List Open → Kind → Bool
begins_param at_stage row st kind.Dollar = true
begins_param at_stage row st kind.Star = true
begins_param at_stage row st kind.Whole = true
begins_param at_stage row st kind.Real = true
begins_param at_stage row st kind.Text = true
begins_param at_stage row st kind.Item = true
begins_param at_stage row st kind.Bits = true
begins_param at_stage row st kind.Name = not (is_in_header at_stage)
begins_param at_stage row st kind.UserKeyword = is_in_header at_stage
begins_param at_stage row st kind.Left = true
begins_param at_stage row st kind.Right = closes_empty row st
begins_param at_stage row st other = is_keyword other

abbrev pub takes : Stage → Spot → Kind → Bool
takes at_stage idle k = begins at_stage k
takes at_stage (line l) kind.Semicolon = ends (after at_stage (section l))
takes at_stage (named n) kind.Equals = true
takes at_stage (equal n) kind.Left = true
takes at_stage (equal n) k = is_keyword k
takes at_stage (inside n ps) kind.Right = not (length ps == 0)
takes at_stage (inside n ps) k = is_keyword k
takes at_stage (keyed h k) kind.Left = true
takes at_stage (keyed h k) kind.Semicolon = takes_end at_stage h k
takes at_stage (next row st) k = begins_param at_stage row st k
takes at_stage (word k row st) kind.Left = true
takes at_stage (behind row st) kind.Comma = has_comma row
takes at_stage (behind row st) kind.Right = closes row st
takes at_stage (record_end p) kind.Semicolon = ends_record at_stage p
takes at_stage (instance_end n r) kind.Semicolon = ends (after at_stage (instance n r))
takes at_stage spot k = false
