-- What a parser does with a token, over trees of the definitions: for private clauses.
use Rattle.std.specs.Prelude.{◌≡◌, ◌≢◌, ℕ, Bool, true, false, if◌then◌else◌, nat_lt, List, [], ◌∷◌, ◌++◌, length, Option, Some, None, Result, Ok, Err, codes}
use Rattle.std.specs.Str.{bytes_eq}
use Rattle.p21_spec_exchange.specs.DataSection.{unnamed, heading_of}
use Rattle.p21_spec_exchange.specs.Parameter.{Key, key_of, Param, dollar, star, whole, real, text, name, item, bits, list, typed, Params, no_params, param}
use Rattle.p21_spec_exchange.specs.Record.{Part, Record, simple, complex}
use Rattle.p21_spec_exchange.specs.Statement.{SectionLine, Statement, section, header, instance, begin, header_start, section_end, data_start, finish}
use Rattle.p21_spec_exchange.specs.Token as token
use Rattle.p21_spec_exchange.specs.Token.{Token}
use Rattle.p21_grammar_tree.specs.View.{key_view, part_view, part_views, record_view, views}
use Rattle.p21_tokens_automaton.specs.declared.mode.Absent.TheVariants as absent
use Rattle.p21_grammar.specs.Stage.{after, after_heading, is_in_header, is_in_data}
use Rattle.p21_grammar.specs.Shape.{is_heading, is_key}
use Rattle.p21_grammar.specs.Statements.{line_of, statement_of}
use Rattle.p21_grammar.specs.declared.event.Event.{Event}
use Rattle.p21_grammar.specs.declared.fault.GrammarFault.{GrammarFault}
use Rattle.p21_grammar.specs.declared.fault.GrammarFault.TheVariants as fault
use Rattle.p21_grammar.specs.declared.machine.At.{At}
use Rattle.p21_grammar.specs.declared.machine.At.TheVariants as at
use Rattle.p21_grammar.specs.declared.machine.Head.{Head as HeadHeld}
use Rattle.p21_grammar.specs.declared.machine.Head.TheVariants as head
use Rattle.p21_grammar.specs.declared.machine.Machine.{Machine}
use Rattle.p21_grammar.specs.declared.machine.Opening.{Opening as OpeningHeld}
use Rattle.p21_grammar.specs.declared.machine.Opening.TheVariants as opening
use Rattle.p21_grammar.specs.declared.machine.Row.{Row}
use Rattle.p21_grammar.specs.declared.stage.Stage.{Stage}
use Rattle.p21_grammar.specs.declared.stage.Stage.TheVariants as stage

-- what stands before the keyword of a simple record: nothing, `#1=`, or `#1=(` and records
pub data Head : Type 0 where
  bare : Head
  simply : ℕ → Head
  among : ℕ → List Part → Head

-- how parameters in a row began: with the keyword of a simple record, as a list, or with the keyword of a typed parameter
pub data Opening : Type 0 where
  part_row : Head → Key → Opening
  list_row : Opening
  typed_row : Key → Opening

pub data Open : Type 0 where
  open_at : Opening → Params → Open

-- what was taken last: parameters that are open have those around them, the innermost first
pub data Spot : Type 0 where
  idle : Spot
  line : SectionLine → Spot
  named : ℕ → Spot
  equal : ℕ → Spot
  inside : ℕ → List Part → Spot
  keyed : Head → Key → Spot
  next : Open → List Open → Spot
  word : Key → Open → List Open → Spot
  behind : Open → List Open → Spot
  record_end : Part → Spot
  instance_end : ℕ → Record → Spot

pub data Move : Type 0 where
  go : Stage → Spot → Move
  emit : Statement → Stage → Move
  refuse : GrammarFault → Move

-- ---- refusals

abbrev pub user_keyword_fault : Bool → GrammarFault
user_keyword_fault true = fault.LeftOut absent.UserKeyword
user_keyword_fault false = fault.Unexpected

-- a token that does not go on with a statement
abbrev pub misplaced_fault : Stage → Token → GrammarFault
misplaced_fault at_stage (token.user_keyword w) = user_keyword_fault (is_in_data at_stage)
misplaced_fault at_stage other = fault.Unexpected

-- the same where parameters are open
abbrev pub misplaced_param_fault : Stage → Token → GrammarFault
misplaced_param_fault at_stage (token.user_keyword w) = if is_in_header at_stage then fault.Unexpected else fault.LeftOut absent.UserKeyword
misplaced_param_fault at_stage other = fault.Unexpected

-- a keyword where a section or the end of the file may begin
abbrev pub other_section_fault : List ℕ → GrammarFault
other_section_fault w =
    if bytes_eq w (codes "ANCHOR") then fault.LeftOut absent.Anchor
    else if bytes_eq w (codes "REFERENCE") then fault.LeftOut absent.Reference
    else if bytes_eq w (codes "SIGNATURE") then fault.LeftOut absent.Signature
    else fault.Unexpected

-- a keyword behind the end
abbrev pub fault_behind_end : List ℕ → GrammarFault
fault_behind_end w = if bytes_eq w (codes "SIGNATURE") then fault.LeftOut absent.Signature else fault.AfterEnd

-- ---- parameters

abbrev pub push : Params → Param → Params
push no_params q = param q no_params
push (param p ps) q = param p (push ps q)

abbrev pub pushed : Open → Param → Open
pushed (open_at o ps) p = open_at o (push ps p)

abbrev pub enter : Stage → Opening → Open → List Open → Move
enter at_stage o row st = if nat_lt (length st) 64 then go at_stage (next (open_at o no_params) (row ∷ st)) else refuse fault.TooDeep

abbrev pub closed_part : Head → Part → Spot
closed_part bare p = record_end p
closed_part (simply n) p = instance_end n (simple p)
closed_part (among n ps) p = inside n (ps ++ p ∷ [])

abbrev pub put_back : Stage → List Open → Param → Move
put_back at_stage [] p = refuse fault.Unexpected
put_back at_stage (row ∷ st) p = go at_stage (behind (pushed row p) st)

-- the one parameter of a typed parameter
abbrev pub close_typed : Stage → List Open → Key → Params → Move
close_typed at_stage st k no_params = refuse fault.Unexpected
close_typed at_stage st k (param p no_params) = put_back at_stage st (typed k p)
close_typed at_stage st k (param p (param q ps)) = refuse fault.Unexpected

abbrev pub close : Stage → Open → List Open → Move
close at_stage (open_at (part_row h k) ps) st = go at_stage (closed_part h (record { key = k; params = ps }))
close at_stage (open_at list_row ps) st = put_back at_stage st (list ps)
close at_stage (open_at (typed_row k) ps) st = close_typed at_stage st k ps

-- a parenthesis right behind an opening one
abbrev pub close_empty : Stage → Open → List Open → Move
close_empty at_stage (open_at o no_params) st = close at_stage (open_at o no_params) st
close_empty at_stage (open_at o (param p ps)) st = refuse fault.Unexpected

abbrev pub comma : Stage → Open → List Open → Move
comma at_stage (open_at (part_row h k) ps) st = go at_stage (next (open_at (part_row h k) ps) st)
comma at_stage (open_at list_row ps) st = go at_stage (next (open_at list_row ps) st)
comma at_stage (open_at (typed_row k) ps) st = refuse fault.Unexpected

abbrev pub put : Stage → Open → List Open → Param → Move
put at_stage row st p = go at_stage (behind (pushed row p) st)

-- where a parameter may begin
abbrev pub at_next : Stage → Open → List Open → Token → Move
at_next at_stage row st token.dollar = put at_stage row st dollar
at_next at_stage row st token.star = put at_stage row st star
at_next at_stage row st (token.whole z) = put at_stage row st (whole z)
at_next at_stage row st (token.real d) = put at_stage row st (real d)
at_next at_stage row st (token.text chars) = put at_stage row st (text chars)
at_next at_stage row st (token.item w) = put at_stage row st (item w)
at_next at_stage row st (token.bits value) = put at_stage row st (bits value)
at_next at_stage row st (token.name n) = if is_in_header at_stage then refuse fault.Unexpected else put at_stage row st (name n)
at_next at_stage row st (token.keyword w) = go at_stage (word (key_of w) row st)
at_next at_stage row st (token.user_keyword w) = if is_in_header at_stage then go at_stage (word (record { user = true; word = w }) row st) else refuse (fault.LeftOut absent.UserKeyword)
at_next at_stage row st token.left = enter at_stage list_row row st
at_next at_stage row st token.right = close_empty at_stage row st
at_next at_stage row st other = refuse fault.Unexpected

-- behind a parameter
abbrev pub at_behind : Stage → Open → List Open → Token → Move
at_behind at_stage row st token.comma = comma at_stage row st
at_behind at_stage row st token.right = close at_stage row st
at_behind at_stage row st other = refuse (misplaced_param_fault at_stage other)

-- behind the keyword of a typed parameter
abbrev pub at_word : Stage → Key → Open → List Open → Token → Move
at_word at_stage k row st token.left = enter at_stage (typed_row k) row st
at_word at_stage k row st other = refuse (misplaced_param_fault at_stage other)

-- ---- statements

abbrev pub ended : Statement → Result Stage GrammarFault → Move
ended s (Ok at_stage) = emit s at_stage
ended s (Err why) = refuse why

abbrev pub at_line : Stage → SectionLine → Token → Move
at_line at_stage l token.semicolon = ended (section l) (after at_stage (section l))
at_line at_stage l other = refuse (misplaced_fault at_stage other)

abbrev pub at_named : Stage → ℕ → Token → Move
at_named at_stage n token.equals = go at_stage (equal n)
at_named at_stage n other = refuse (misplaced_fault at_stage other)

abbrev pub at_equal : Stage → ℕ → Token → Move
at_equal at_stage n (token.keyword w) = go at_stage (keyed (simply n) (key_of w))
at_equal at_stage n token.left = go at_stage (inside n [])
at_equal at_stage n other = refuse (misplaced_fault at_stage other)

abbrev pub close_records : Stage → ℕ → List Part → Move
close_records at_stage n [] = refuse fault.Unexpected
close_records at_stage n (p ∷ ps) = go at_stage (instance_end n (complex (p ∷ ps)))

abbrev pub at_inside : Stage → ℕ → List Part → Token → Move
at_inside at_stage n ps (token.keyword w) = go at_stage (keyed (among n ps) (key_of w))
at_inside at_stage n ps token.right = close_records at_stage n ps
at_inside at_stage n ps other = refuse (misplaced_fault at_stage other)

-- the `;` behind a bare keyword: the end of the header, or the beginning of a data section without a name
abbrev pub end_keyword : Stage → Key → Move
end_keyword at_stage k =
    if is_in_header at_stage
    then (if is_key (codes "ENDSEC") k then ended (section section_end) (after at_stage (section section_end)) else refuse fault.Unexpected)
    else (if is_key (codes "DATA") k then ended (section (data_start unnamed)) (after at_stage (section (data_start unnamed))) else refuse fault.Unexpected)

abbrev pub at_keyed : Stage → Head → Key → Token → Move
at_keyed at_stage h k token.left = go at_stage (next (open_at (part_row h k) no_params) [])
at_keyed at_stage bare k token.semicolon = end_keyword at_stage k
at_keyed at_stage h k other = refuse (misplaced_fault at_stage other)

-- the `;` behind a DATA with parameters
abbrev pub end_heading : Stage → Part → Move
end_heading at_stage p = if is_heading p then ended (section (data_start (heading_of p.params))) (after_heading at_stage) else refuse fault.SectionShape

-- the `;` behind a record with no instance name
abbrev pub end_record : Stage → Part → Move
end_record at_stage p =
    if is_in_header at_stage then ended (header p) (after at_stage (header p)) else end_heading at_stage p

abbrev pub at_record_end : Stage → Part → Token → Move
at_record_end at_stage p token.semicolon = end_record at_stage p
at_record_end at_stage p other = refuse (misplaced_fault at_stage other)

abbrev pub at_instance_end : Stage → ℕ → Record → Token → Move
at_instance_end at_stage n r token.semicolon = ended (instance n r) (after at_stage (instance n r))
at_instance_end at_stage n r other = refuse (misplaced_fault at_stage other)

-- ---- where no statement is open

abbrev pub at_start : Stage → Token → Move
at_start at_stage token.begin = go at_stage (line begin)
at_start at_stage other = refuse fault.Unexpected

abbrev pub at_begun : Stage → Token → Move
at_begun at_stage (token.keyword w) = if bytes_eq w (codes "HEADER") then go at_stage (line header_start) else refuse (other_section_fault w)
at_begun at_stage other = refuse fault.Unexpected

abbrev pub at_header : Stage → Token → Move
at_header at_stage (token.keyword w) = go at_stage (keyed bare (key_of w))
at_header at_stage (token.user_keyword w) = go at_stage (keyed bare (record { user = true; word = w }))
at_header at_stage other = refuse fault.Unexpected

-- a keyword where a data section may begin
abbrev pub at_data_keyword : Stage → List ℕ → Move
at_data_keyword at_stage w = if bytes_eq w (codes "DATA") then go at_stage (keyed bare (key_of w)) else refuse (other_section_fault w)

abbrev pub at_headed : Stage → Token → Move
at_headed at_stage (token.keyword w) = at_data_keyword at_stage w
at_headed at_stage token.finish = refuse (fault.LeftOut absent.NoDataSection)
at_headed at_stage other = refuse fault.Unexpected

abbrev pub at_data : Stage → Token → Move
at_data at_stage (token.name n) = go at_stage (named n)
at_data at_stage (token.keyword w) = if bytes_eq w (codes "ENDSEC") then go at_stage (line section_end) else refuse fault.Unexpected
at_data at_stage (token.user_keyword w) = refuse (fault.LeftOut absent.UserKeyword)
at_data at_stage other = refuse fault.Unexpected

abbrev pub at_behind_unnamed : Stage → Token → Move
at_behind_unnamed at_stage (token.keyword w) = refuse (if bytes_eq w (codes "DATA") then fault.LeftOut absent.SecondSection else other_section_fault w)
at_behind_unnamed at_stage token.finish = go at_stage (line finish)
at_behind_unnamed at_stage other = refuse fault.Unexpected

abbrev pub at_behind_named : Stage → Token → Move
at_behind_named at_stage (token.keyword w) = at_data_keyword at_stage w
at_behind_named at_stage token.finish = go at_stage (line finish)
at_behind_named at_stage other = refuse fault.Unexpected

abbrev pub at_end : Token → Move
at_end (token.keyword w) = refuse (fault_behind_end w)
at_end other = refuse fault.AfterEnd

abbrev pub at_idle : Stage → Token → Move
at_idle stage.Start t = at_start stage.Start t
at_idle stage.Begun t = at_begun stage.Begun t
at_idle stage.Description t = at_header stage.Description t
at_idle stage.FileName t = at_header stage.FileName t
at_idle stage.FileSchema t = at_header stage.FileSchema t
at_idle stage.Further t = at_header stage.Further t
at_idle stage.Headed t = at_headed stage.Headed t
at_idle stage.Unnamed t = at_data stage.Unnamed t
at_idle stage.Named t = at_data stage.Named t
at_idle stage.BehindUnnamed t = at_behind_unnamed stage.BehindUnnamed t
at_idle stage.BehindNamed t = at_behind_named stage.BehindNamed t
at_idle stage.Ended t = at_end t

abbrev pub step : Stage → Spot → Token → Move
step at_stage idle t = at_idle at_stage t
step at_stage (line l) t = at_line at_stage l t
step at_stage (named n) t = at_named at_stage n t
step at_stage (equal n) t = at_equal at_stage n t
step at_stage (inside n ps) t = at_inside at_stage n ps t
step at_stage (keyed h k) t = at_keyed at_stage h k t
step at_stage (next row st) t = at_next at_stage row st t
step at_stage (word k row st) t = at_word at_stage k row st t
step at_stage (behind row st) t = at_behind at_stage row st t
step at_stage (record_end p) t = at_record_end at_stage p t
step at_stage (instance_end n r) t = at_instance_end at_stage n r t

-- ---- how many lists and typed parameters are open
abbrev pub depth_of : Spot → ℕ
depth_of (next row st) = length st
depth_of (word k row st) = length st
depth_of (behind row st) = length st
depth_of other = 0

-- ---- what the fields stand for

abbrev pub head_of : HeadHeld → Head
head_of head.Bare = bare
head_of (head.Simple n) = simply n
head_of (head.Among n ps) = among n (part_views ps.items)

abbrev pub opening_of : OpeningHeld → Opening
opening_of (opening.Part h k) = part_row (head_of h) (key_view k)
opening_of opening.List = list_row
opening_of (opening.Tagged k) = typed_row (key_view k)

abbrev pub open_of : Row → Open
open_of row = open_at (opening_of row.opening) (views row.params.items)

abbrev pub onto : List Open → List Row → List Open
onto st [] = st
onto st (row ∷ rows) = onto (open_of row ∷ st) rows

-- the rows around, the innermost first
unfoldable pub stack_of : List Row → List Open
stack_of rows = onto [] rows

abbrev pub spot_at : At → Row → List Row → Spot
spot_at at.Idle row rows = idle
spot_at (at.Line l) row rows = line (line_of l)
spot_at (at.Named n) row rows = named n
spot_at (at.Equal n) row rows = equal n
spot_at (at.Among n ps) row rows = inside n (part_views ps.items)
spot_at (at.Keyed h k) row rows = keyed (head_of h) (key_view k)
spot_at at.Next row rows = next (open_of row) (stack_of rows)
spot_at (at.Word k) row rows = word (key_view k) (open_of row) (stack_of rows)
spot_at at.Behind row rows = behind (open_of row) (stack_of rows)
spot_at (at.RecordEnd p) row rows = record_end (part_view p)
spot_at (at.InstanceEnd n r) row rows = instance_end n (record_view r)

abbrev pub spot_of : Machine → Spot
spot_of m = spot_at m.at m.row m.frames.items

-- the machine made this move
abbrev pub MakesMove : Move → Machine → Type 0
MakesMove move m = move ≡ go m.stage (spot_of m)

-- it made this move, and answered this
abbrev pub AnswersMove : Move → Machine → Option Event → Type 0
AnswersMove move m None = move ≡ go m.stage (spot_of m)
AnswersMove move m (Some event) = (move ≡ emit (statement_of event) m.stage) × (spot_of m ≡ idle)

-- want of memory apart, this is why there is no move
abbrev pub RefusesMove : Move → GrammarFault → Type 0
RefusesMove move why = why ≢ fault.NoMemory → move ≡ refuse why

-- a machine that refuses a token as unexpected stands there
abbrev pub Keeps : GrammarFault → Stage → Spot → Machine → Type 0
Keeps why at_stage spot m = why ≡ fault.Unexpected → (m.stage ≡ at_stage) × (spot_of m ≡ spot)

-- behind a refusal it stands there, or at the stage where no statement is open
abbrev pub StandsRefused : GrammarFault → Stage → Machine → Machine → Type 0
StandsRefused fault.Unexpected at_stage old new = (new.stage ≡ old.stage) × (spot_of new ≡ spot_of old)
StandsRefused why at_stage old new = (new.stage ≡ at_stage) × (spot_of new ≡ idle)
