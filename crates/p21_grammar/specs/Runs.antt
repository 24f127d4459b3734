-- A parser over many tokens, and the tokens that it holds: for private clauses.
use Rattle.std.specs.Prelude.{List, [], ◌∷◌, ◌++◌, Option, Some, None}
use Rattle.std.specs.List.{flat_map}
use Rattle.p21_spec_exchange.specs.Parameter.{Params, no_params, param, key_token, param_tokens, params_tokens}
use Rattle.p21_spec_exchange.specs.Record.{part_tokens, record_tokens}
use Rattle.p21_spec_exchange.specs.Statement.{Statement, section_tokens}
use Rattle.p21_spec_exchange.specs.Token.{Token, name, equals, left, comma}
use Rattle.p21_grammar.specs.Machine.{Head, bare, simply, among, Opening, part_row, list_row, typed_row, Open, open_at, Spot, idle, line, named, equal, inside, keyed, next, word, behind, record_end, instance_end, Move, go, emit, refuse, step}
use Rattle.p21_grammar.specs.declared.stage.Stage.{Stage}

-- the statements that a run gave, and where it is
pub data RunOutcome : Type 0 where
  run_outcome : List Statement → Stage → Spot → RunOutcome

abbrev pub with_first_statements : List Statement → Option RunOutcome → Option RunOutcome
with_first_statements es None = None
with_first_statements es (Some (run_outcome fs p sp)) = Some (run_outcome (es ++ fs) p sp)

abbrev pub moved : Move → (Stage → Spot → Option RunOutcome) → Option RunOutcome
moved (go p sp) then = then p sp
moved (emit s p) then = with_first_statements (s ∷ []) (then p idle)
moved (refuse why) then = None

abbrev pub run : List Token → Stage → Spot → Option RunOutcome
run [] p sp = Some (run_outcome [] p sp)
run (t ∷ ts) p sp = moved (step p sp t) (run ts)

-- ---- the tokens that are held

-- parameters with a comma behind each
abbrev pub ready_tokens : Params → List Token
ready_tokens no_params = []
ready_tokens (param p ps) = param_tokens p ++ comma ∷ ready_tokens ps

abbrev pub head_tokens : Head → List Token
head_tokens bare = []
head_tokens (simply n) = name n ∷ equals ∷ []
head_tokens (among n parts) = name n ∷ equals ∷ left ∷ flat_map part_tokens parts

abbrev pub opening_tokens : Opening → List Token
opening_tokens (part_row h k) = head_tokens h ++ key_token k ∷ left ∷ []
opening_tokens list_row = left ∷ []
opening_tokens (typed_row k) = key_token k ∷ left ∷ []

abbrev pub row_tokens : Open → List Token
row_tokens (open_at o ps) = opening_tokens o ++ ready_tokens ps

abbrev pub stack_tokens : List Open → List Token
stack_tokens [] = []
stack_tokens (row ∷ st) = stack_tokens st ++ row_tokens row

-- with no comma behind the last
abbrev pub filled_tokens : Open → List Token
filled_tokens (open_at o ps) = opening_tokens o ++ params_tokens ps

-- the tokens since the last statement
abbrev pub pending : Spot → List Token
pending idle = []
pending (line l) = section_tokens l
pending (named n) = name n ∷ []
pending (equal n) = name n ∷ equals ∷ []
pending (inside n parts) = name n ∷ equals ∷ left ∷ flat_map part_tokens parts
pending (keyed h k) = head_tokens h ++ key_token k ∷ []
pending (next row st) = stack_tokens st ++ row_tokens row
pending (word k row st) = (stack_tokens st ++ row_tokens row) ++ key_token k ∷ []
pending (behind row st) = stack_tokens st ++ filled_tokens row
pending (record_end part) = part_tokens part
pending (instance_end n r) = name n ∷ equals ∷ record_tokens r
